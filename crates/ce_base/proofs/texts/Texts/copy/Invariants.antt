use Rattle.std.proofs.Common.{◌≡◌, take}
use Rattle.ce_base.proofs.texts.Texts.copy.Given as goal

abbrev pub invariant-loop-t : goal.invariant-loop-t
invariant-loop-t l = l.items.items ≡ take l.t-index l.t-items
