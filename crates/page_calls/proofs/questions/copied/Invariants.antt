use Rattle.std.proofs.Common.{◌≡◌, take}
use Rattle.page_calls.proofs.questions.copied.Given as goal

abbrev pub invariant-loop-n : goal.invariant-loop-n
invariant-loop-n l = l.nodes ≡ take l.n-index l.numbers
