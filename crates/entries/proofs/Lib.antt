pub mod Owning
pub mod Answers
