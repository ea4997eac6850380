pub use Rattle.machine_layout.specs.Exits
pub use Rattle.machine_layout.specs.Memory
pub use Rattle.machine_layout.specs.Walks
pub use Rattle.machine_layout.specs.declared.walk
pub mod MsrFile
pub mod Machine
pub mod Within
