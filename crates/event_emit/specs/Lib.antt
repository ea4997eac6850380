pub mod ByIndex
pub mod Named
pub mod Tables
