-- What the contracts of this crate cite besides the rules.
pub mod NameWords
pub mod Moves
pub mod Lent
