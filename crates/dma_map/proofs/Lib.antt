pub mod Leads
pub mod Rows
pub mod Texts
