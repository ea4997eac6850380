mod Examples
pub mod Items
pub mod NoPages
pub mod SameThings
