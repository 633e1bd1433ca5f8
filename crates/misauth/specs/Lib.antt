pub mod Run
pub mod AccessRequest
pub mod Accept
pub mod Reject
