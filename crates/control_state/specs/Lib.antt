pub mod Choosing
pub mod Sources
pub mod Reading
pub mod Counts
