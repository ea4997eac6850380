pub use Rattle.record_text.specs.declared.record
pub mod Devices
pub mod Before
pub mod AtTick
