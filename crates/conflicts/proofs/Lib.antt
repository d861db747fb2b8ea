pub mod Busy
pub mod Walking
