pub mod ByIndex
pub mod ChannelEnds
pub mod Channels
pub mod Components
pub mod Parties
