pub mod Stored
pub mod Walks
pub mod Edges
pub mod Pairs
