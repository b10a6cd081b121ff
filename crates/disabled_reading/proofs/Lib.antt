pub mod Legends
pub mod Ways
