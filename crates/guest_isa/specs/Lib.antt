pub use Rattle.state_page.specs.StatePage
pub use Rattle.state_page.specs.States
pub use Rattle.state_page.specs.declared.state
pub mod GuestIsa
pub mod Finish
pub mod Named
pub mod Step
pub mod Words
