use Rattle.std.proofs.Common.{◌≡◌, map, string_bytes, length}
use Rattle.command_words.specs.Choices.{chosen_of}
use Rattle.command_words.specs.Words.{nothing, read}
use Rattle.command_words.proofs.choice.Choice.of.Given as goal

abbrev pub invariant-loop-left : goal.invariant-loop-left
invariant-loop-left l = read (map (λ w. string_bytes w) l.left) (chosen_of l.choice) ≡ read (map (λ w. string_bytes w) l.words) nothing

abbrev pub decreases-loop-left : goal.decreases-loop-left
decreases-loop-left l = length l.left
