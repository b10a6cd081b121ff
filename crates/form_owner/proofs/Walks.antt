-- A loop along a list.
use Rattle.std.proofs.Common.{◌≡◌, ◌+◌, ℕ, Bool, true, false, cond, List, [], ◌∷◌, ◌++◌, take, Some, refl, ap, ◌∙◌, sym}
use Rattle.std.specs.Prelude.{filter, map, slice_get}
use Rattle.std.proofs.lemmas.List.{map-append}
use Rattle.ce_base.proofs.Filtered.{kept-more}

-- one more that is made, where it says something
pub made-next : {Y : Type 0} (f : ℕ → Y) (says : Y → Bool) (xs : List ℕ) (i x : ℕ) (made new : List Y) (y : Y) → slice_get xs i ≡ Some x
    → made ≡ map f (filter (λ n. says (f n)) (take i xs)) → y ≡ f x → new ≡ made ++ cond (says y) (y ∷ []) []
    → new ≡ map f (filter (λ n. says (f n)) (take (i + 1) xs))
made-next f says xs i x made new y at so_far is longer =
    longer
    ∙ ap (λ v. made ++ cond (says v) (v ∷ []) []) is
    ∙ ap (λ v. v ++ cond (says (f x)) (f x ∷ []) []) so_far
    ∙ ap (λ v. map f (filter (λ n. says (f n)) (take i xs)) ++ v) (by_test (says (f x)))
    ∙ sym (map-append f (filter (λ n. says (f n)) (take i xs)) (cond (says (f x)) (x ∷ []) []))
    ∙ ap (map f) (sym (kept-more (λ n. says (f n)) xs i x at))
  where
    by_test : (b : Bool) → cond b (f x ∷ []) [] ≡ map f (cond b (x ∷ []) [])
    by_test true = refl
    by_test false = refl
