-- What the inner contracts of `machine` cite.
pub mod Spans
pub mod Small
pub mod Live
pub mod Stack
pub mod Reach
pub mod Committed
pub mod Plan
pub mod Families
pub mod Fields
pub mod Fits
pub mod Outcomes
