-- Those of a list that pass a test, one more at a time.
use Rattle.std.proofs.Common.{◌≡◌, ℕ, ◌+◌, Bool, cond, List, [], ◌∷◌, ◌++◌, take, get_or, Some, sym, ap, ◌∙◌}
use Rattle.std.specs.Prelude.{filter, slice_get}
use Rattle.std.proofs.lemmas.List.Elements.{filter_more}
use Rattle.std.proofs.lemmas.Option.{get_or_from_slice_get, slice_get_within}

module _ (p : ℕ → Bool) (xs : List ℕ) (i x : ℕ) (at : slice_get xs i ≡ Some x) where
  pub kept-more : filter p (take (i + 1) xs) ≡ filter p (take i xs) ++ cond (p x) (x ∷ []) []
  kept-more =
      let read : get_or xs i x ≡ x = get_or_from_slice_get xs i x x at in
      filter_more p xs i x (slice_get_within xs i x at) ∙ ap (λ y. filter p (take i xs) ++ cond (p y) (y ∷ []) []) read

  pub filter-next : (found new : List ℕ) (passes : Bool) → found ≡ filter p (take i xs) → passes ≡ p x → new ≡ found ++ cond passes (x ∷ []) []
      → new ≡ filter p (take (i + 1) xs)
  filter-next found new passes so_far is longer =
      longer ∙ ap (λ b. found ++ cond b (x ∷ []) []) is ∙ ap (λ ys. ys ++ cond (p x) (x ∷ []) []) so_far ∙ sym kept-more
