pub mod Blind
pub mod Callbacks
pub mod Constructors
pub use Rattle.ce_outcomes.specs.Turns
pub use Rattle.ce_outcomes.specs.Placed
