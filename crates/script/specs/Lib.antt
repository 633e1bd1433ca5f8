pub mod Words
pub mod Digits
pub mod Decimal
pub mod Hex
pub mod Print
pub mod Examples
