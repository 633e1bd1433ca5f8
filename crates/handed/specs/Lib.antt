pub mod Code
pub mod Missing
