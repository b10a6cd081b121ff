pub mod Flagged
pub use Rattle.form_owner.proofs.GroupWalks
