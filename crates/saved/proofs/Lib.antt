-- Laws for the proofs of this crate's functions.
pub mod OneNumber
pub mod Columns
pub mod Verdicts
pub mod States
