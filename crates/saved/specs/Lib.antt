-- What the contracts of `saved` cite besides the rules.
pub mod Cells
pub mod Outcomes
pub mod Reach
