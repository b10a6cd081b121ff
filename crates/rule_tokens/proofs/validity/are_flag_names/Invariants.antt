use Rattle.std.proofs.Common.{◌≡◌, drop}
use Rattle.std.specs.List.{list_all}
use Rattle.rule_tokens.specs.Flags.{flag_names, is_one_of}
use Rattle.rule_tokens.proofs.validity.are_flag_names.Given as goal

abbrev pub invariant-loop-name : goal.invariant-loop-name
invariant-loop-name l = list_all (is_one_of flag_names) (drop l.name-index l.names) ≡ list_all (is_one_of flag_names) l.names
