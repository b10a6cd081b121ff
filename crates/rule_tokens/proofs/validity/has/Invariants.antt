use Rattle.std.proofs.Common.{◌≡◌, drop}
use Rattle.rule_tokens.specs.Flags.{is_one_of}
use Rattle.rule_tokens.proofs.validity.has.Given as goal

abbrev pub invariant-loop-name : goal.invariant-loop-name
invariant-loop-name l = is_one_of (drop l.name-index l.names) l.flag ≡ is_one_of l.names l.flag
