-- Laws of a router's stored state that the proofs of this crate and of those above it cite.
pub mod PlaceLaws
pub mod SettingsLaws
pub mod RouterLaws
pub mod TypeLaws
pub mod LoadedLaws
mod MadeLaws
