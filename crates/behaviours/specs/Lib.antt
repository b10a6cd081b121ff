pub use Rattle.class_bodies.specs.Resume
pub use Rattle.class_bodies.specs.Next
pub use Rattle.class_bodies.specs.Turns
pub mod Behaviours
