pub mod Calls
pub mod Step
pub mod Text
