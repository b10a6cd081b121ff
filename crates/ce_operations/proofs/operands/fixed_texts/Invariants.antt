use Rattle.std.proofs.Common.{◌≡◌}
use Rattle.std.specs.Prelude.{map}
use Rattle.ce_algorithms.specs.Values.{fixed_text}
use Rattle.ce_operations.proofs.operands.fixed_texts.Given as goal

abbrev pub invariant-loop-v : goal.invariant-loop-v
invariant-loop-v l = l.texts ≡ map fixed_text l.yielded
