pub mod Refusals
pub mod ListingLaws
pub mod RunLaws
