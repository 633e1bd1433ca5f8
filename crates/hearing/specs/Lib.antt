pub mod Hear
