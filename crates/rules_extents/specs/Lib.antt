pub mod AddressRange
pub mod Fixed
pub mod Inside
pub mod Parted
pub mod Shared
pub mod Windows
