mod ByTick
mod Spelling
