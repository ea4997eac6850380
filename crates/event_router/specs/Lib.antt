pub mod Vectors
pub mod Router
