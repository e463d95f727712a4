-- Laws for the proofs of this crate's functions, and (Within) for those that call them.
pub mod Pieces
pub mod Within
