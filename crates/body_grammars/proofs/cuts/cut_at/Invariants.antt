use Rattle.std.proofs.Common.{◌≡◌, take, drop}
use Rattle.body_grammars.specs.Cuts.{cut_at, onto}
use Rattle.body_grammars.proofs.cuts.cut_at.Given as goal

abbrev pub invariant-loop-i : goal.invariant-loop-i
invariant-loop-i l = onto (take l.i l.bytes) (cut_at l.c (drop l.i l.bytes)) ≡ cut_at l.c l.bytes
