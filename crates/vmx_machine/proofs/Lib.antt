pub mod AreaSteps
pub mod StoreWithin
pub mod MachineLaws
pub mod Restored
