pub mod Tables
pub mod Fields
pub mod Rows
pub mod Reading
pub mod Writing
