pub mod TurnLaws
pub mod EndLaws
pub use Rattle.session_state.proofs.GivenLaws
