-- Laws of a node's calls over lent buffers.
pub mod HandedLaws
