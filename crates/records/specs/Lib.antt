-- What a forget and a why are told of the records in use.
pub mod Judgements
