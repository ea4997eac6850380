pub use Rattle.dma_emit.specs.Reached
pub use Rattle.muen_outside.specs.Puts
pub mod DmaMapText
pub mod Rows
pub mod Told
