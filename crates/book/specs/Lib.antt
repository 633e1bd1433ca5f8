pub mod Entries
pub mod Whole
pub mod Search
pub mod Bounds
pub mod Left
pub mod Slots
pub mod Examples
