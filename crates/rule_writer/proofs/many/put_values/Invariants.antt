use Rattle.std.proofs.Common.{◌≡◌, ◌++◌, drop, map, string_bytes}
use Rattle.rule_tokens.specs.Spaced.{spaced}
use Rattle.rule_lines.specs.Canon.{all_tokens}
use Rattle.rule_lines.specs.declared.read_as.ReadAs.TheVariants as read_as
use Rattle.rule_lines.specs.Clean.{AreTexts}
use Rattle.rule_writer.proofs.many.put_values.Given as goal

abbrev pub invariant-loop-val : goal.invariant-loop-val
invariant-loop-val l =
    (string_bytes l.out ++ spaced (all_tokens (map read_as.Value (drop l.val-index l.vals)))
    ≡ string_bytes l.initial.out ++ spaced (all_tokens (map read_as.Value l.vals)))
    × (AreTexts (all_tokens (map read_as.Value (drop l.val-index l.vals))) → AreTexts (all_tokens (map read_as.Value l.vals)))
