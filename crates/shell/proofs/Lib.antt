-- Laws of the shell that the proofs of every party's calls cite.
pub mod ShellLaws
