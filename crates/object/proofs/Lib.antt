-- Laws that the proofs of this crate and of those above it cite.
pub mod WalkLaws
pub mod ItemLaws
pub mod ChosenLaws
pub mod FoundLaws
pub mod ObjectsLaws
pub mod ChainLaws
pub mod EdgeLaws
