-- Laws that the proofs of this crate and of those above it cite.
pub mod MapLaws
pub mod LapseLaws
pub mod FindLaws
pub mod WordLaws
pub mod SetUpLaws
