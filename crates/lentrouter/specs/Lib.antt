pub mod Begin
pub mod Router
