-- Laws of the tables in the code, for the proofs of its functions.
pub mod OneOf
pub mod OperandCodes
pub mod NameWords
pub mod NameTable
pub mod SpMoves
pub mod Chains
