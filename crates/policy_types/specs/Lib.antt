pub mod MsrGrants
pub mod PortRanges
pub mod Refusals
pub mod Rights
