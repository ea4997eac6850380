pub mod Frames
pub mod IndexTables
pub mod Found
pub mod Spans
