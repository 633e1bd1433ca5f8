-- Laws that the proofs of this crate and of those above it cite, and the vectors of RFC 1321.
pub mod RotateLaws
pub mod RowLaws
pub mod BytesLaws
pub mod BlockLaws
pub mod PaddingLaws
pub mod Md5Laws
pub mod Vectors
