-- Laws that the proofs of the call cite: the access request, and one for each way of the call.
pub mod SealLaws
pub mod AskedLaws
pub mod RequestLaws
