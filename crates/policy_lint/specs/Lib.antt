pub mod All
pub mod Linting
pub mod Seen
