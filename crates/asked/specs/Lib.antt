pub mod Arguments
pub mod Verb
