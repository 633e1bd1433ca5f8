-- Laws that the proofs of the call cite: one for each way of it.
pub mod ReplyLaws
