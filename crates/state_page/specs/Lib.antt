pub use Rattle.machine_layout.specs.Memory
pub use Rattle.machine_layout.specs.PageFields
pub mod StatePage
pub mod States
