pub mod FrameSlot
pub mod Frames
pub mod Plan
pub mod Slot
pub mod Alike
pub mod Run
