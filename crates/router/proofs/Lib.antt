-- Laws that the proofs of the calls cite: one for each way of a call.
pub mod BeaconLaws
pub mod CloseLaws
