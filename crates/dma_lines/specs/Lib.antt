pub use Rattle.dma_tables.specs.Lowered
pub use Rattle.image_pack.specs.Parts
pub use Rattle.image_pack.specs.SpanConditions
pub use Rattle.muen_outside.specs.Puts
pub mod LineLaws
pub mod LinesText
pub mod Losses
