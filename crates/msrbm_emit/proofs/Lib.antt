pub mod AreaLaws
pub mod MsrLaws
