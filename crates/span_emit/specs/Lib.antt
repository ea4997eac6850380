pub mod ByAddress
pub mod Spans
pub mod SpansOf
pub use Rattle.image_pack.specs.declared.parts
