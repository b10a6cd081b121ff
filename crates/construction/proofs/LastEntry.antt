-- The last entry of a construction stack, which a contract sees first.
use Rattle.std.proofs.Common.{◌≡◌, ℕ, suc, List, ◌∷◌, Option, Some, None, length, get_or, take, sym, refl, ap, ◌∙◌}
use Rattle.std.specs.Prelude.{slice_set, reverse}
use Rattle.ce_base.proofs.LastFirst.{reverse-set_last, reverse-last}
use Rattle.construction.specs.Stacks.{marked}

marked-entry : (entry : Option ℕ) (entries : List (Option ℕ)) → None ∷ entries ≡ marked (entry ∷ entries)
marked-entry None entries = refl
marked-entry (Some n) entries = refl

-- the marker in the place of the last entry
pub marked-last : (entries : List (Option ℕ)) (i : ℕ) (entry : Option ℕ) → length entries ≡ suc i → entry ≡ get_or entries i entry
    → reverse (slice_set entries i None) ≡ marked (reverse entries)
marked-last entries i entry len read =
    reverse-set_last entries i None len
    ∙ marked-entry entry (reverse (take i entries))
    ∙ ap marked (sym (reverse-last entries i entry len read))
