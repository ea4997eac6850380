pub mod DeviceParts
pub mod Entries
pub mod Indexes
pub mod Names
pub mod Outline
pub mod Parts
pub mod SubjectParts
