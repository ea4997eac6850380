pub mod BusByExtent
pub mod DomainsByIndex
pub mod GrantTables
pub mod GrantsByIndex
pub mod MsrsByExtent
pub mod Names
pub mod PortsByExtent
pub mod WindowsByExtent
