pub mod Groups
pub mod Numbers
pub mod Parts
pub mod Steps
