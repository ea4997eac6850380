pub mod Faults
pub mod FaultText
pub mod Form
pub mod Name
