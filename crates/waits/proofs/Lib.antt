pub mod Older
pub mod Waits
pub mod Holders
