-- A list whose last element counts as the first.
use Rattle.std.proofs.Common.{◌≡◌, ℕ, suc, List, [], ◌∷◌, ◌++◌, length, get_or, take, sym, ap, ◌∙◌, arith}
use Rattle.std.specs.Prelude.{slice_set, reverse}
use Rattle.std.proofs.lemmas.List.{reverse-append, set_split, set-get_or, drop_all}

-- the last element given anew
pub reverse-set_last : {A : Type 0} → (xs : List A) (i : ℕ) (x : A) → length xs ≡ suc i → reverse (slice_set xs i x) ≡ x ∷ reverse (take i xs)
reverse-set_last xs i x len =
    let split : slice_set xs i x ≡ take i xs ++ x ∷ [] =
    set_split xs i x (omega arith) ∙ ap (λ rest. take i xs ++ x ∷ rest) (drop_all (suc i) xs (omega arith)) in
    ap reverse split ∙ reverse-append (take i xs) (x ∷ [])

-- the last element
pub reverse-last : {A : Type 0} → (xs : List A) (i : ℕ) (x : A) → length xs ≡ suc i → x ≡ get_or xs i x → reverse xs ≡ x ∷ reverse (take i xs)
reverse-last xs i x len read =
    ap reverse (sym (ap (slice_set xs i) read ∙ set-get_or xs i x)) ∙ reverse-set_last xs i x len
