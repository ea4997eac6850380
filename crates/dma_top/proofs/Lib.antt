pub mod Accepted
pub mod Completing
pub mod Digits
pub mod Ending
mod Examples
pub mod FilesRead
pub mod LinesRead
pub mod Placed
pub mod TablesJudged
pub mod TwoCalls
