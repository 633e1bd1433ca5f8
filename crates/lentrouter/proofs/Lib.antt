-- Laws of a router's calls over lent buffers.
pub mod TurnedLaws
