pub mod SmallImage
pub mod SmallLaws
pub mod Steered
pub mod SteeredLaws
