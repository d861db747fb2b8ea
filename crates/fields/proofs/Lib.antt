pub mod Forms
pub mod Values
pub mod Parts
pub mod Taking
pub mod Reading
pub mod Writing
pub mod Standing
pub mod InPlace
