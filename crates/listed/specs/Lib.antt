pub mod Text
pub mod Fields
pub mod Air
pub mod Wired
