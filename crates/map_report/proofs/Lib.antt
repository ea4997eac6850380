pub mod Numbered
pub mod Text
