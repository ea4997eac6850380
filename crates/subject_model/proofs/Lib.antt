pub mod KeyLaws
pub mod SystemLaws
mod CyclicFrames
mod KeptTicks
pub mod PolicyFacts
pub mod StartLists
pub mod DeviceWrites
pub use Rattle.frame_clock.proofs.SlotGroups
pub use Rattle.frame_clock.proofs.SlotLaws
pub use Rattle.guest_isa.proofs.StepLaws
