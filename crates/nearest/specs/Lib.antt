pub mod Nearest
pub mod Equal
