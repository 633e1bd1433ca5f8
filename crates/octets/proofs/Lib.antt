-- Laws that the proofs of this crate and of those above it cite.
pub mod ChoiceLaws
pub mod RangeLaws
pub mod ListLaws
pub mod SameLaws
pub mod BytesLaws
pub mod PutLaws
pub mod PatchLaws
pub mod NumberLaws
pub mod FittedLaws
pub mod SignedLaws
