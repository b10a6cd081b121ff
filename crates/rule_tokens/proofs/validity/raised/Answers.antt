use Rattle.std.proofs.Common.{refl}
use Rattle.rule_tokens.proofs.validity.raised.Goals as goal

pub returns : goal.returns
returns c = rw (
  c.has.ensures,
  c.has-2.ensures,
  c.has-3.ensures,
  c.has-4.ensures,
  c.has-5.ensures,
  c.has-6.ensures,
  c.has-7.ensures,
  c.has-8.ensures,
  c.has-9.ensures,
  c.has-10.ensures,
) refl
