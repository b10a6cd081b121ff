use Rattle.std.proofs.Common.{◌≡◌, ◌++◌, drop, map}
use Rattle.std.specs.List.{slice_split}
use Rattle.rule_tokens.specs.Flags.{is_comma}
use Rattle.rule_tokens.proofs.validity.names_in.Given as goal

abbrev pub invariant-loop-part : goal.invariant-loop-part
invariant-loop-part l = l.names ++ map (λ x. x.now) (drop l.part-index l.part-items) ≡ slice_split is_comma l.text
