pub mod MemoryPages
pub mod Rising
pub mod SpanNumbers
pub mod SpanPages
pub mod SubjectSpans
