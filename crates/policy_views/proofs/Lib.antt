pub mod EntriesNoted
pub mod SightsAtIndex
pub mod ViewsInParts
