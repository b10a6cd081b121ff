use Rattle.std.proofs.Common.{arith}
use Rattle.std.proofs.lemmas.Bool.Decides.{nat_tests}
use Rattle.disabled_reading.proofs.Legends.{inside-first}
use Rattle.disabled_reading.proofs.disabled.disables.Goals as goal

pub returns-then-eq : goal.returns-then-eq
returns-then-eq c = grind (
  arith,
  nat_tests,
  inside-first _ _ _ _ c.requires.tidy c.requires.node c.requires.child c.requires.above c.requires.way c.requires.parent,
)

pub returns-else-eq : goal.returns-else-eq
returns-else-eq c = grind (
  arith,
  nat_tests,
  inside-first _ _ _ _ c.requires.tidy c.requires.node c.requires.child c.requires.above c.requires.way c.requires.parent,
)
