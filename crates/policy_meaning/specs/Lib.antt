pub mod Contents
pub mod Dma
pub mod Events
pub mod Frames
pub mod Thing
pub mod Windows
