use Rattle.std.proofs.Common.{length}
use Rattle.rule_script.proofs.body.+nest.Given as goal

abbrev pub decreases-nest : goal.decreases-nest
decreases-nest l = length l.inner.now
