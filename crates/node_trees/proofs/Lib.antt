pub mod Absent
pub mod Allowed
pub mod Elements
pub mod Weights
