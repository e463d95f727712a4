-- What each call gives and leaves, and cases of it worked by hand.
pub mod Calls
pub mod Lengths
