use Rattle.std.proofs.Common.{◌≡◌, drop}
use Rattle.std.specs.List.{list_any}
use Rattle.rule_tokens.specs.Tokens.{is_backslash}
use Rattle.rule_tokens.proofs.tokens.has_backslash.Given as goal

abbrev pub invariant-loop-c : goal.invariant-loop-c
invariant-loop-c l = list_any is_backslash (drop l.c-index l.chars) ≡ list_any is_backslash l.chars
