pub mod Outcome
pub mod OnePlace
pub mod Writes
