pub use Rattle.machine_layout.specs.Memory
pub mod Fits
pub mod Ends
pub mod Held
pub mod Cache
