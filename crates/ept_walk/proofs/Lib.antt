pub mod TraceSteps
pub mod BlockLaws
pub mod CacheLaws
