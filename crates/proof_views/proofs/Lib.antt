pub mod Kept
pub mod Unmoved
pub mod Untouched
pub mod StatePages
pub mod LastViews
pub mod ActiveMembers
pub mod SlotCpus
pub mod OwnLines
pub mod LinesOfViews
pub mod MonitorCpus
pub mod OwnStates
pub mod TickParts
pub mod Arrivals
pub mod AloneViews
mod Orders
pub mod ThingsStay
mod PrivateMemory
mod PendingVectors
mod ChannelWriters
pub mod ComposedRuns
