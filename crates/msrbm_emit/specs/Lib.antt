pub mod Area
pub mod Msrs
