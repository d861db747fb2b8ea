pub mod Single
pub mod Unique
pub mod Refusals
