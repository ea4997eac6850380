pub use Rattle.guest_isa.specs.StatePage
pub use Rattle.guest_isa.specs.state
pub mod ViewText
