pub mod Place
pub mod State
