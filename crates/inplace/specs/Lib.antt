pub mod Sought
pub mod Change
