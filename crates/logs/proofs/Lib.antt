pub mod Words
pub mod Forms
pub mod Lists
pub mod Fielding
pub mod Reading
pub mod Shapes
pub mod Bounds
pub mod Examples
