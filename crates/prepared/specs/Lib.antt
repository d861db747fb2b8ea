pub mod Prepared
pub mod Held
