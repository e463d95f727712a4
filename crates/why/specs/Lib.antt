-- What a look down the places leans on.
pub mod Readable
