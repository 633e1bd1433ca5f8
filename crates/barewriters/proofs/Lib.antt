-- A law of the eight writers; their own proofs go without it.
pub mod OutLaws
