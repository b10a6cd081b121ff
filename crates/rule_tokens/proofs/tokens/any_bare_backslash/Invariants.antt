use Rattle.std.proofs.Common.{◌≡◌, drop}
use Rattle.std.specs.List.{list_any}
use Rattle.rule_tokens.specs.Tokens.{has_bare_backslash}
use Rattle.rule_tokens.proofs.tokens.any_bare_backslash.Given as goal

abbrev pub invariant-loop-raw : goal.invariant-loop-raw
invariant-loop-raw l = list_any has_bare_backslash (drop l.raw-index l.raws) ≡ list_any has_bare_backslash l.raws
