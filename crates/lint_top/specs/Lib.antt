pub mod Calls
pub mod Complete
pub mod Lines
pub mod Outcomes
pub mod Statuses
pub mod Tellings
