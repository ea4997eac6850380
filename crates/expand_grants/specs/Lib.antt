pub mod ByIndex
pub mod Grants
pub mod Kept
pub mod Numbered
pub mod Ordered
pub mod Raising
pub mod Resources
