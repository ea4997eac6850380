pub use Rattle.image_memory.proofs.Rising
pub mod Resolved
