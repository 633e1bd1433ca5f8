pub mod Beacon
pub mod Close
pub mod Parts
