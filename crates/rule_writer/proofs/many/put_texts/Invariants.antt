use Rattle.std.proofs.Common.{◌≡◌, ◌++◌, drop, map, string_bytes}
use Rattle.rule_tokens.specs.Spaced.{spaced}
use Rattle.rule_lines.specs.Canon.{all_tokens}
use Rattle.rule_lines.specs.declared.read_as.ReadAs.TheVariants as read_as
use Rattle.rule_lines.specs.Clean.{AreTexts}
use Rattle.rule_writer.proofs.many.put_texts.Given as goal

abbrev pub invariant-loop-text : goal.invariant-loop-text
invariant-loop-text l =
    (string_bytes l.out ++ spaced (all_tokens (map read_as.Chars (drop l.text-index l.texts)))
    ≡ string_bytes l.initial.out ++ spaced (all_tokens (map read_as.Chars l.texts)))
    × (AreTexts (all_tokens (map read_as.Chars (drop l.text-index l.texts))) → AreTexts (all_tokens (map read_as.Chars l.texts)))
