pub mod Disabled
