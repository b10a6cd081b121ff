use Rattle.std.proofs.Common.{◌≡◌, drop}
use Rattle.body_grammars.specs.Escapes.{unspell}
use Rattle.body_grammars.specs.Gives.{with_front}
use Rattle.body_grammars.specs.declared.spelled.InEscape.TheVariants.{Outside}
use Rattle.body_grammars.proofs.spelled.unspell.Given as goal

abbrev pub invariant-loop-b : goal.invariant-loop-b
invariant-loop-b l = with_front l.text.items (unspell (drop l.b-index l.bytes) l.escape) ≡ unspell l.bytes Outside
