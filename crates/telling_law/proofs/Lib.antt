pub mod Shares
pub mod Waiting
pub mod Steps
pub mod Telling
pub mod Differences
pub mod Pages
pub mod Mutations
pub mod Attributes
