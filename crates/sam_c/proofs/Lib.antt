-- What a caller wants beside the clauses of the calls.
pub mod Lent
