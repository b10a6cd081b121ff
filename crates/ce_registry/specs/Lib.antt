pub mod ClassFacts
pub mod Registry
pub mod Found
pub mod Defines
