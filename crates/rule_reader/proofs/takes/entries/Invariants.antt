use Rattle.std.proofs.Common.{◌≡◌}
use Rattle.rule_tokens.specs.Gives.{with_front}
use Rattle.rule_reader.specs.Takes.{entries_up_to}
use Rattle.rule_reader.proofs.takes.entries.Given as goal

abbrev pub invariant-pairs : goal.invariant-pairs
invariant-pairs l = with_front l.all (entries_up_to l.room l.rest) ≡ entries_up_to 32 l.tokens

abbrev pub decreases-pairs : goal.decreases-pairs
decreases-pairs l = l.room
