pub mod Scan
pub mod Unique
