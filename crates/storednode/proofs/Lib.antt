-- Laws of a node's stored state that the proofs of this crate and of those above it cite.
pub mod NodeLaws
pub mod TypeLaws
pub mod LoadedLaws
