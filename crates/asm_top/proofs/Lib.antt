pub mod Ending
mod Examples
