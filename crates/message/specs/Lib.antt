pub mod Reading
pub mod Field
pub mod Writing
pub mod Laid
