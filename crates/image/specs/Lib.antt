-- What the inner contracts of `image` cite.
pub mod Longest
