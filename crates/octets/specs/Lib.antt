pub mod Choice
pub mod Range
pub mod Part
pub mod Numbers
pub mod Same
pub mod Put
