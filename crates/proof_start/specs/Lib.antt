pub mod GroundOf
pub mod Reaching
pub use Rattle.guest_isa.specs.Words
