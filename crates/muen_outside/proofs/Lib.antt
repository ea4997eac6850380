pub mod Buffered
pub mod Explained
pub mod HeldMap
pub mod Histories
pub mod PutEntry
pub mod Puts
pub mod ReadSteps
pub mod Writes
