pub mod Gaps
pub mod Placed
pub mod Placement
pub use Rattle.expand_kernel.specs.Ordered
pub use Rattle.expand_kernel.specs.Pages
pub use Rattle.expand_kernel.specs.Regions
pub use Rattle.expand_kernel.specs.thing
pub use Rattle.expand_kernel.specs.window
