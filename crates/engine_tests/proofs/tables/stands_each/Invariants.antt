use Rattle.std.proofs.Common.{◌≡◌}
use Rattle.engine_tests.proofs.tables.stands_each.Given as goal

abbrev pub invariant-loop-i : goal.invariant-loop-i
invariant-loop-i g l = l.session.line ≡ l.i
