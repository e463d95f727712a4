-- What a reader or a caller wants beside the contracts.
pub mod Natural
pub mod Bitwise
pub mod Halves
pub mod Unlike
