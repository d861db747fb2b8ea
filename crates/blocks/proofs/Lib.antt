pub mod Coming
pub mod Starts
