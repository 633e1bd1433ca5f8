pub mod Request
pub mod Seated
pub mod Parts
