pub use Rattle.flow_report.specs.FlowText
pub mod Accesses
pub mod ByIndex
pub mod Closures
pub mod DeviceFlows
pub mod Ends
