pub mod Ended
pub mod Turns
pub mod Bodies
pub mod Rested
