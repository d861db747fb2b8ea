pub mod Resuming
pub mod Playing
pub mod Beginning
pub mod Unique
