use Rattle.std.proofs.Common.{◌≡◌, ◌++◌, drop, string_bytes}
use Rattle.rule_tokens.specs.Spaced.{spaced}
use Rattle.rule_lines.specs.Canon.{all_tokens}
use Rattle.rule_reader.specs.AsRead.{pairs}
use Rattle.rule_lines.specs.Clean.{AreTexts}
use Rattle.rule_writer.proofs.many.put_entries.Given as goal

abbrev pub invariant-loop-entry : goal.invariant-loop-entry
invariant-loop-entry l =
    (string_bytes l.out ++ spaced (all_tokens (pairs (drop l.entry-index l.entries))) ≡ string_bytes l.initial.out ++ spaced (all_tokens (pairs l.entries)))
    × (AreTexts (all_tokens (pairs (drop l.entry-index l.entries))) → AreTexts (all_tokens (pairs l.entries)))
