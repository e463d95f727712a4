-- What the numbers' contracts cite besides the rules.
pub mod Answered
