pub mod Completing
pub mod Ending
pub mod FormFound
pub mod UsagePut
