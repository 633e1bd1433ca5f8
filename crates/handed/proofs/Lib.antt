-- Laws of the number that a call hands back, and of a number that may be missing.
pub mod CodeLaws
pub mod SaidLaws
