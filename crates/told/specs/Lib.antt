pub mod Print
pub mod Report
