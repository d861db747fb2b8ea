pub mod Forms
pub mod Fields
pub mod Reading
