pub use Rattle.proof_isolation.specs.TwoTexts
pub mod ByIndex
pub mod FlowText
pub mod Marks
pub mod Sets
pub mod TextByIndex
