pub mod Place
pub mod Settings
pub mod Router
