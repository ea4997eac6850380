mod Examples
mod Rows
pub mod Spelled
pub mod Alike
pub mod StateLaws
pub mod StepLaws
