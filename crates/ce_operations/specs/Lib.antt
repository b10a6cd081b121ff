pub mod ByUser
pub mod OnControls
pub mod OnForms
pub mod OnInternals
pub mod OnTree
pub mod Ready
pub use Rattle.session_state.specs.Resolved
