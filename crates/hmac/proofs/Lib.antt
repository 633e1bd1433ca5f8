-- Laws that the proofs of this crate and of those above it cite, and the vectors of RFC 2104.
pub mod KeyLaws
pub mod HmacLaws
pub mod Vectors
