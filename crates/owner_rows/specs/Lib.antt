pub mod OwnerRow
pub mod Attributes
