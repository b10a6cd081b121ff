pub use Rattle.ce_reactions.proofs.ConstructLaws
pub use Rattle.ce_reactions.proofs.SessionLaws
pub use Rattle.ce_reactions.proofs.SettleLaws
