pub mod Reading
pub use Rattle.rule_tokens.specs.Quoted
