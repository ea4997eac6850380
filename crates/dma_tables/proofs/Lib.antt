pub mod ByPages
pub mod ConditionsHold
mod Examples
pub mod FileLaws
pub mod FileSizes
pub mod Lines
pub mod LoweredLaws
pub mod LoweredOrder
pub mod LoweredSpans
pub mod LoweredWrites
pub use Rattle.image_pack.proofs.PartsKeep
