pub use Rattle.checkedness.specs.Stands
pub use Rattle.checkedness.specs.Groups
