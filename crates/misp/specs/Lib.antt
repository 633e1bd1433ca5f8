pub mod Request
pub mod Success
pub mod Failure
pub mod Terminating
