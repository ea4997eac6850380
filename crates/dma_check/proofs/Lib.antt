mod Examples
pub mod Listings
pub mod Sounds
pub mod Ways
pub mod Alike
pub mod PathIs
pub mod MarkLaws
pub mod PieceLaws
pub mod Found
pub mod NumberedLaws
pub mod SourcesLaws
pub mod AgainLaws
