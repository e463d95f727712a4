-- What the demands say, and what a request promises besides.
pub mod Each
pub mod Unbounded
pub mod Series
pub mod Agrees
pub mod Whole
pub mod Carried
pub mod Refusals
pub mod Addresses
pub mod Dwells
pub mod Rooms
pub mod Evenings
pub mod Delivered
pub mod Wrote
pub mod Formulas
pub mod FormulaTexts
