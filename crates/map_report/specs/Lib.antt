pub use Rattle.region_alloc.specs.Placement
pub mod ByNumber
pub mod Lines
pub mod MapText
