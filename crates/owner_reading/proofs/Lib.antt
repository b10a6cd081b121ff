pub mod Ancestors
pub mod Climbing
