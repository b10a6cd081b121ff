-- A loop that takes a list from the left: what it has, with what the rest gives, is what the whole gives.
use Rattle.std.proofs.Common.{◌≡◌, ℕ, ◌+◌, ◌<◌, Bool, false, List, ◌∷◌, length, get_or, drop, sym, ap, ◌∙◌}
use Rattle.std.specs.List.{list_any}
use Rattle.std.proofs.lemmas.List.{at_drop_more}

-- one more element was taken
pub read_on : {A B : Type 0} (F G : List A → B) (xs : List A) (i : ℕ) (x : A) (whole : B)
    → i < length xs → x ≡ get_or xs i x → F (drop i xs) ≡ whole → ((rest : List A) → F (x ∷ rest) ≡ G rest) → G (drop (i + 1) xs) ≡ whole
read_on F G xs i x whole small here so_far step =
    sym (step (drop (i + 1) xs)) ∙ ap (λ y. F (y ∷ drop (i + 1) xs)) here ∙ sym (at_drop_more F xs i x small) ∙ so_far

-- one more element is none that is looked for
pub passed_over : {A : Type 0} (p : A → Bool) (xs : List A) (i : ℕ) (d : A) (whole : Bool)
    → i < length xs → false ≡ p (get_or xs i d) → list_any p (drop i xs) ≡ whole → list_any p (drop (i + 1) xs) ≡ whole
passed_over p xs i d whole small other so_far =
    let here : list_any p (get_or xs i d ∷ drop (i + 1) xs) ≡ list_any p (drop (i + 1) xs) = rw (← other) in
    sym here ∙ sym (at_drop_more (list_any p) xs i d small) ∙ so_far
