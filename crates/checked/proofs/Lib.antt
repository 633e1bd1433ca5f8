-- Laws that the proofs of this crate and of those above it cite.
pub mod ShapeLaws
pub mod WritesLaws
pub mod RequestLaws
pub mod SuccessLaws
pub mod TerminatingLaws
pub mod Beyond
pub mod UnderKeyLaws
