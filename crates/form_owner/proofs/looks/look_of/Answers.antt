use Rattle.std.proofs.Common.{sym, ◌∙◌}
use Rattle.form_owner.proofs.looks.look_of.Goals as goal

pub returns-then-is_unnamed : goal.returns-then-is_unnamed
returns-then-is_unnamed c = (
  record { node = c.requires; apart = sym c.is_concerned.ensures ∙ c.if-is_concerned.false },
  c.is_unnamed.ensures c.if-is_unnamed.true,
)
