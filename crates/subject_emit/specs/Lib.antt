pub mod Mapped
pub mod Pages
pub mod Ready
pub use Rattle.iobm_emit.specs.Ports
pub use Rattle.msrbm_emit.specs.Area
pub use Rattle.msrbm_emit.specs.Msrs
