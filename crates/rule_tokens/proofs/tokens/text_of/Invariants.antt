use Rattle.std.proofs.Common.{◌≡◌, ◌++◌, drop, encode_utf8_all, string_bytes}
use Rattle.rule_tokens.proofs.tokens.text_of.Given as goal

abbrev pub invariant-loop-c : goal.invariant-loop-c
invariant-loop-c l = string_bytes l.s ++ encode_utf8_all (drop l.c-index l.chars) ≡ encode_utf8_all l.chars
