pub use Rattle.image_memory.specs.Memory
pub mod Loaded
pub mod Loading
pub mod RecordDevices
pub mod Resolving
