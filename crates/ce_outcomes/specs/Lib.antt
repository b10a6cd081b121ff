pub mod Fitting
pub mod Turns
pub mod Placed
pub use Rattle.session_state.specs.Steps
pub use Rattle.session_state.specs.Given
