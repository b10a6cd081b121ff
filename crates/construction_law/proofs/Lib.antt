pub mod StackDepths
pub mod Steps
pub mod Primitives
pub mod Algorithms
pub mod Sessions
