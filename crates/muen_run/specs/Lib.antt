pub mod RunText
pub mod Turns
pub mod Ends
pub mod Ready
