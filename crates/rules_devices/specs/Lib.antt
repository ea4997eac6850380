pub mod Grants
pub mod Domains
pub mod Ranges
pub mod Windows
