pub mod Reaching
pub mod Passing
