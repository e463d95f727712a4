-- Laws of the depth list for the proofs of its functions.
pub mod Codes
pub mod Rules
pub mod Failing
