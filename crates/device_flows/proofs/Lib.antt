pub mod Accesses
pub mod Closures
pub mod Enumerated
pub mod HeldFlows
pub mod JoinedRows
pub mod MarkedEnds
pub mod Touches
