pub mod Source
pub mod Listing
pub mod Laws
