-- Laws that the proofs of the login cite.
pub mod SendLaws
pub mod SixteenLaws
pub mod StepLaws
