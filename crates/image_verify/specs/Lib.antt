pub mod ByNumber
pub mod FaultText
pub mod Filled
pub mod Stand
pub mod TablePages
pub mod Windows
pub mod Verdict
