pub mod Leaving
pub mod Turning
pub mod Opening
pub mod Streamed
pub mod Unique
pub mod Written
pub mod Program
