pub mod Below
pub mod Canonical
pub mod Cases
pub mod Laws
pub mod Place
pub mod Reading
pub mod Spells
