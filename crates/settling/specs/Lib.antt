pub mod Reply
pub mod Parts
