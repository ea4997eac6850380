pub mod ComponentAtIndex
pub mod DeviceAtIndex
pub mod Elements
pub mod Names
pub mod PartNames
pub mod Refusals
pub mod Resolved
pub mod SubjectAtIndexes
