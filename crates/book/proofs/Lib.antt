-- Laws that the proofs of this crate and of those above it cite.
pub mod LayoutLaws
pub mod WalkLaws
pub mod LeftLaws
pub mod RepeatLaws
pub mod SlotLaws
pub mod SearchLaws
pub mod MatchLaws
pub mod BookLaws
pub mod CoverLaws
