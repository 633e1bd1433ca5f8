-- Laws that the proofs of this crate cite, and how many repeats a reader of MISAUTH counts.
pub mod TextLaws
pub mod CountLaws
