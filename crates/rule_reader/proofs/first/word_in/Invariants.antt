use Rattle.std.proofs.Common.{◌≡◌, drop}
use Rattle.rule_reader.specs.First.{word_in}
use Rattle.rule_reader.proofs.first.word_in.Given as goal

abbrev pub invariant-loop-word : goal.invariant-loop-word
invariant-loop-word l = word_in (drop l.word-index l.words) l.text ≡ word_in l.words l.text
