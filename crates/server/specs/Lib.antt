pub mod Login
pub mod Parts
