-- Laws that the proofs of this crate cite, and that a party stays as a call left it.
pub mod StateLaws
pub mod CallLaws
pub mod StayLaws
