use Rattle.std.proofs.Common.{◌≡◌, drop}
use Rattle.rule_tokens.specs.Cut.{cut}
use Rattle.rule_tokens.specs.Gives.{with_front}
use Rattle.rule_tokens.specs.declared.cutting.Within.TheVariants.{Gap}
use Rattle.rule_tokens.proofs.cutting.cut.Given as goal

abbrev pub invariant-loop-c : goal.invariant-loop-c
invariant-loop-c l = with_front l.done.items (cut (drop l.c-index l.line) l.within) ≡ cut l.line Gap
