mod SmallBytes
mod SmallConditions
mod SmallSound
mod SmallWalks
mod Steered
