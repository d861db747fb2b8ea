pub mod Play
pub mod Turns
pub mod Starts
pub mod Steps
