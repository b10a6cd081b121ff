pub mod Actions
pub mod Named
pub mod Sent
