-- Laws of a look down the places, and of what it leans on.
pub mod Looking
pub mod Readable
