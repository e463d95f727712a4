-- Laws for the proofs of this crate's functions.
pub mod Instructions
