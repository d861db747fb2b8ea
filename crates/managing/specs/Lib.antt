pub mod Listed
pub mod Managing
