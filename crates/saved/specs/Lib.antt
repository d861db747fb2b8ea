pub mod Rows
pub mod Written
pub mod Listed
pub mod Standing
pub mod Reading
