pub mod Opened
pub mod Sets
pub mod Slots
