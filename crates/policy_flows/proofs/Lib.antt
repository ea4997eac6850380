pub mod Closures
pub mod EventWays
pub mod EventWaysFlow
pub mod UniqueSubjects
