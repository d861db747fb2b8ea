pub mod Tables
pub mod Faults
pub mod Worded
pub mod Checks
pub mod Marks
pub mod Drafts
pub mod Texts
