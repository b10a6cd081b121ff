use Rattle.std.proofs.Common.{◌≡◌, ◌++◌, drop}
use Rattle.ce_events.specs.Text.{spaced}
use Rattle.ce_lines.proofs.lists.put_spaced.Given as goal

abbrev pub invariant-loop-text : goal.invariant-loop-text
invariant-loop-text l = l.out ++ spaced (drop l.text-index l.texts) ≡ l.initial.out ++ spaced l.texts
