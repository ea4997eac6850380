pub mod Digits
pub mod Numerals
pub mod GroupsInTurn
pub mod Cuts
