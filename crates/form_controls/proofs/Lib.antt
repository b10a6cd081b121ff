pub mod Listed
pub mod Filled
pub mod Differ
pub mod Ancestors
