-- Laws that the proofs of this crate and of those above it cite.
pub mod SpotLaws
pub mod SoughtLaws
pub mod AlterLaws
pub mod BlankLaws
pub mod SaysLaws
pub mod OneLapseLaws
pub mod CleanLaws
pub mod HoldsLaws
pub mod PlacedLaws
pub mod LapseLaws
