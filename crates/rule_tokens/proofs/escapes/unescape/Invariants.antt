use Rattle.std.proofs.Common.{◌≡◌, drop}
use Rattle.rule_tokens.specs.Escapes.{unescape}
use Rattle.rule_tokens.specs.Gives.{with_front}
use Rattle.rule_tokens.specs.declared.escapes.InEscape.TheVariants.{Outside}
use Rattle.rule_tokens.proofs.escapes.unescape.Given as goal

abbrev pub invariant-loop-c : goal.invariant-loop-c
invariant-loop-c l = with_front l.text (unescape (drop l.c-index l.chars) l.escape) ≡ unescape l.chars Outside
