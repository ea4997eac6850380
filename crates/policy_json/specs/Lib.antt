pub mod Document
pub mod Objects
pub mod Table
pub mod Values
pub use Rattle.policy_values.specs.Faults
