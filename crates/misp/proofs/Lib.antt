-- Theorems on the four kinds, and the laws they rest on.
pub mod FailureLaws
pub mod TerminatingLaws
pub mod SuccessLaws
pub mod RequestLaws
pub mod RoundTrip
pub mod Beyond
pub mod CutShort
