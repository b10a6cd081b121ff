pub use Rattle.checkedness.proofs.GroupWalks
