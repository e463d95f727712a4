-- The laws of what is read of a formula and of its code. Assumes nothing.
pub mod Readings
pub mod Costs
pub mod Writes
pub mod Scanned
pub mod Turns
pub mod Operands
pub mod Chains
pub mod Whole
