pub use Rattle.form_owner.specs.Stands
pub use Rattle.form_owner.specs.Groups
