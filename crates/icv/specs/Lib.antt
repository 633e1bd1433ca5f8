pub mod Icv
