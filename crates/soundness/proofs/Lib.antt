pub mod Marked
pub mod Rooms
pub mod Past
