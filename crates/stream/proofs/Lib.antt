pub mod Pieces
pub mod Cuts
pub mod Lines
pub mod Fronts
