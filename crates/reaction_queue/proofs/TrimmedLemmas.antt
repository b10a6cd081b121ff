-- Lists side by side, without the empty ones at the end.
use Rattle.std.proofs.Common.{◌≡◌, ◌≤◌, ◌<◌, ℕ, zero, suc, List, [], ◌∷◌, ◌++◌, length, get_or, refl, ap, sym, ◌∙◌, arith, Option, Some, None}
use Rattle.std.proofs.Common.{MatchOption}
use Rattle.std.specs.Prelude.{slice_set}
use Rattle.std.proofs.lemmas.List.{get_or-set_same, length-set, set-get_or}
use Rattle.std.proofs.lemmas.Option.{slice_get-get_or, slice_get_past}
use Rattle.reaction_queue.specs.Queues.{ahead, list_at, with_list, or_empty}
use Rattle.reaction_queue.specs.Trimmed.{trimmed}
use Rattle.reaction_queue.proofs.PlaceLemmas.{list_at_ahead, list_at_head}

-- an empty list more at the end is none
pub trimmed-push : {A : Type 0} → (ls : List (List A)) → trimmed (ls ++ [] ∷ []) ≡ trimmed ls
trimmed-push [] = refl
trimmed-push (l ∷ ls) = ap (ahead l) (trimmed-push ls)

-- the list at a place
pub list_at-trimmed : {A : Type 0} → (i : ℕ) (ls : List (List A)) → list_at i (trimmed ls) ≡ list_at i ls
list_at-trimmed i [] = refl
list_at-trimmed zero (l ∷ ls) = list_at_head l (trimmed ls)
list_at-trimmed (suc i) (l ∷ ls) = list_at_ahead i l (trimmed ls) ∙ list_at-trimmed i ls

-- the list at a place given anew
pub with_list_head : {A : Type 0} → (xs l : List A) (ls : List (List A)) → with_list zero xs (ahead l ls) ≡ ahead xs ls
with_list_head xs [] [] = refl
with_list_head xs [] (m ∷ ls) = refl
with_list_head xs (x ∷ l) ls = refl

pub with_list_ahead : {A : Type 0} → (i : ℕ) (xs l : List A) (ls : List (List A)) → with_list (suc i) xs (ahead l ls) ≡ ahead l (with_list i xs ls)
with_list_ahead i xs [] [] = refl
with_list_ahead i xs [] (m ∷ ls) = refl
with_list_ahead i xs (x ∷ l) ls = refl

pub trimmed-set : {A : Type 0} → (i : ℕ) (xs : List A) (ls : List (List A)) → i < length ls → trimmed (slice_set ls i xs) ≡ with_list i xs (trimmed ls)
trimmed-set i xs [] lt = absurd (omega arith)
trimmed-set zero xs (l ∷ ls) lt = sym (with_list_head xs l (trimmed ls))
trimmed-set (suc i) xs (l ∷ ls) lt =
    ap (ahead l) (trimmed-set i xs ls (omega arith)) ∙ sym (with_list_ahead i xs l (trimmed ls))

-- an empty list given anew where there is an empty one, or none, changes nothing
with_none : {A : Type 0} → (i : ℕ) → with_list {A = A} i [] [] ≡ []
with_none zero = refl
with_none (suc i) = ap (ahead []) (with_none i)

pub trimmed-empty : {A : Type 0} → (i : ℕ) (ls : List (List A)) → list_at i (trimmed ls) ≡ [] → with_list i [] (trimmed ls) ≡ trimmed ls
trimmed-empty i [] at = with_none i
trimmed-empty zero (l ∷ ls) at =
    with_list_head [] l (trimmed ls) ∙ ap (λ m. ahead m (trimmed ls)) (sym at ∙ list_at_head l (trimmed ls))
trimmed-empty (suc i) (l ∷ ls) at =
    with_list_ahead i [] l (trimmed ls) ∙ ap (ahead l) (trimmed-empty i ls (sym (list_at_ahead i l (trimmed ls)) ∙ at))

-- what stands at a place that is there, and past the end
pub list_at-read : {A : Type 0} → (i : ℕ) (ls : List (List A)) (l : List A) → i < length ls → l ≡ get_or ls i l → list_at i (trimmed ls) ≡ l
list_at-read i ls l lt read = list_at-trimmed i ls ∙ ap or_empty (slice_get-get_or ls i l lt) ∙ sym read

pub list_at-past : {A : Type 0} → (i : ℕ) (ls : List (List A)) → length ls ≤ i → list_at i (trimmed ls) ≡ []
list_at-past i ls le = list_at-trimmed i ls ∙ ap or_empty (slice_get_past ls i le)

pub list_at-set : {A : Type 0} → (i : ℕ) (ls : List (List A)) (l : List A) → i < length ls → list_at i (trimmed (slice_set ls i l)) ≡ l
list_at-set i ls l lt =
    list_at-read i (slice_set ls i l) l (omega (arith, length-set ls i l)) (sym (get_or-set_same ls i l l lt))

-- the first of the list at a place is taken, if there is one
pub takes_first : {A : Type 0} → (ls : List (List A)) (i : ℕ) (l m : List A) (r : Option A) → i < length ls → l ≡ get_or ls i l
    → MatchOption r ((l ≡ []) × (m ≡ [])) (λ x. l ≡ x ∷ m)
    → MatchOption r (list_at i (trimmed ls) ≡ []) (λ x. list_at i (trimmed ls) ≡ x ∷ list_at i (trimmed (slice_set ls i m)))
takes_first ls i l m None lt read taken = list_at-read i ls l lt read ∙ taken.0
takes_first ls i l m (Some x) lt read taken =
    list_at-read i ls l lt read ∙ taken ∙ ap (λ xs. x ∷ xs) (sym (list_at-set i ls m lt))

pub takes_others : {A : Type 0} → (ls : List (List A)) (i : ℕ) (l m : List A) (r : Option A) → i < length ls → l ≡ get_or ls i l
    → MatchOption r ((l ≡ []) × (m ≡ [])) (λ x. l ≡ x ∷ m)
    → MatchOption r (trimmed (slice_set ls i m) ≡ trimmed ls)
    (λ x. trimmed (slice_set ls i m) ≡ with_list i (list_at i (trimmed (slice_set ls i m))) (trimmed ls))
takes_others ls i l m None lt read taken =
    ap trimmed (ap (slice_set ls i) (taken.1 ∙ sym taken.0 ∙ read) ∙ set-get_or ls i l)
takes_others ls i l m (Some x) lt read taken =
    trimmed-set i m ls lt ∙ ap (λ xs. with_list i xs (trimmed ls)) (sym (list_at-set i ls m lt))

-- one more comes last in the list at a place
pub appends : {A : Type 0} → (ls : List (List A)) (i : ℕ) (l m : List A) (x : A) → i < length ls → l ≡ get_or ls i l → m ≡ l ++ x ∷ []
    → trimmed (slice_set ls i m) ≡ with_list i (list_at i (trimmed ls) ++ x ∷ []) (trimmed ls)
appends ls i l m x lt read longer =
    trimmed-set i m ls lt ∙ ap (λ xs. with_list i xs (trimmed ls)) (longer ∙ ap (λ xs. xs ++ x ∷ []) (sym (list_at-read i ls l lt read)))
