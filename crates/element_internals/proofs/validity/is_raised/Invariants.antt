use Rattle.std.proofs.Common.{◌≡◌, Bool, drop}
use Rattle.std.specs.List.{list_any}
use Rattle.element_internals.proofs.validity.is_raised.Given as goal

abbrev pub invariant-loop-flag : goal.invariant-loop-flag
invariant-loop-flag l = list_any (λ (b : Bool). b) (drop l.flag-index l.flag-items) ≡ list_any (λ (b : Bool). b) l.flag-items
