use Rattle.std.proofs.Common.{◌≡◌, take, drop}
use Rattle.body_grammars.specs.Cuts.{cut_text, onto}
use Rattle.body_grammars.proofs.cuts.cut_text.Given as goal

abbrev pub invariant-loop-i : goal.invariant-loop-i
invariant-loop-i l = onto (take l.i l.bytes) (cut_text l.text (drop l.i l.bytes)) ≡ cut_text l.text l.bytes
