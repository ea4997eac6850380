pub mod DevicesByIndex
pub mod EntriesReach
pub mod KeptEvents
pub mod TablesByIndex
