pub mod Fitting
pub mod Gathered
pub mod Made
pub mod Parting
pub mod Taking
