mod Memories
pub mod Loops
mod Acting
mod Windows
mod PlanTicks
mod RunFrames
mod Ticks
pub mod Playing
mod EchoContents
pub mod Echo
mod EchoLoops
mod Reacts
mod Gossip
mod Lent
