pub use Rattle.ce_reactions.specs.Blind
