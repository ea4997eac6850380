mod Windows
mod Counts
mod Conflicts
mod Switches
mod Stores
mod Outsiders
mod OutsiderTurns
mod Inboxes
mod Alike
mod Turners
mod BothRaise
mod BothTurns
mod CpuTurns
pub mod SeenWrites
mod MergedInputs
mod MergedTurns
pub mod TwoSystems
mod TwoTexts
pub mod TwoEnds
pub mod WrittenOut
