pub mod Lines
pub mod Quotes
pub mod Occurs
pub mod Heads
pub mod Parsed
pub mod Free
pub mod Frame
pub mod Pieces
