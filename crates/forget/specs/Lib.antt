-- A forget's answer with what it leaves.
pub mod Outcomes
