-- What a call leans on in a sound state, its answer with what it leaves, and the lengths of what it is lent.
pub mod Held
pub mod Lent
pub mod Outcomes
