pub mod Above
pub mod Holders
pub mod Ways
pub use Rattle.disabled_reading.specs.Disabled
pub mod Locality
