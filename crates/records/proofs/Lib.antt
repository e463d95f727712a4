pub mod Formed
pub mod Walks
pub mod Judgements
