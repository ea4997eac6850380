pub mod Accepting
pub mod Building
pub mod FileNames
pub mod ImageFor
pub mod Looks
pub mod Reading
pub mod Refusals
pub use Rattle.policy_json.specs.Document
