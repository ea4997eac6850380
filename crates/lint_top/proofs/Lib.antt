pub mod Completing
pub mod Ending
