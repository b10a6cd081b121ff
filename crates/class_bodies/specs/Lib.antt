pub mod Bodies
pub mod Resume
pub mod Next
pub mod Turns
pub use Rattle.ce_frames.specs.Places
