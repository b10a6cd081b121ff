use Rattle.std.proofs.Common.{◌≡◌, drop}
use Rattle.std.specs.List.{list_any}
use Rattle.std.specs.Str.{bytes_eq}
use Rattle.rule_tokens.proofs.validity.is_one_of.Given as goal

abbrev pub invariant-loop-name : goal.invariant-loop-name
invariant-loop-name l = list_any (λ name. bytes_eq l.text name.now) (drop l.name-index l.names) ≡ list_any (λ name. bytes_eq l.text name.now) l.names
