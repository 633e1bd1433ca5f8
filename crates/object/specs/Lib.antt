pub mod Family
pub mod Rule
pub mod Walk
pub mod Objects
