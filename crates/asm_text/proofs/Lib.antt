pub mod Accepted
mod LayoutLaws
mod RangeLaws
pub mod Seats
mod TermLaws
pub mod TokenLaws
mod ValueLaws
