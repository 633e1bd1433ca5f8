-- Theorems on the three kinds, and the laws they rest on.
pub mod RunLaws
pub mod RejectLaws
pub mod AcceptLaws
pub mod AccessRequestLaws
pub mod RoundTrip
pub mod Beyond
pub mod CutShort
pub mod GivenRunLaws
pub mod AlikeLaws
pub mod GivenLaws
