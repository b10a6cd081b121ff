pub mod Joins
pub mod Pairs
pub mod Same
pub mod SameForms
pub mod SameRest
pub mod SameAround
pub mod Table
pub mod Back
