pub mod Cut
pub mod Chunk
