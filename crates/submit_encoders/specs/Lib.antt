pub mod Cuts
pub mod Encoded
pub mod Lines
