-- What the console's contracts cite besides the rules.
pub mod Room
