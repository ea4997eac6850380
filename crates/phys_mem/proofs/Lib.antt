pub mod Spelling
pub mod FrameLaws
pub mod Rising
pub mod Fresh
pub mod TableLaws
