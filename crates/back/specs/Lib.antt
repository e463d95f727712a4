-- What a record leans on that is taken back.
pub mod Undoable
