-- What the contracts of this crate cite besides the rules, and what a tree may hold.
pub mod Scans
pub mod Parts
pub mod Trees
