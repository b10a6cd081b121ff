-- A list that grows by what each of some gives, one after another.
use Rattle.std.proofs.Common.{◌≡◌, ℕ, ◌+◌, ◌<◌, Bool, true, false, cond, List, [], ◌∷◌, ◌++◌, take, get_or, length, map, refl, ap, sym, ◌∙◌, append_assoc}
use Rattle.std.proofs.Common.{append-nil}
use Rattle.std.specs.Prelude.{filter, flat_map}
use Rattle.std.proofs.lemmas.Grind.{flat_map-append}
use Rattle.std.proofs.lemmas.List.Concat.{flat_map_single}
use Rattle.std.proofs.lemmas.List.Elements.{filter_more}

module _ {A : Type 0} (p : ℕ → Bool) (g : ℕ → List A) where
  one-gives : (x : ℕ) (b : Bool) → flat_map g (cond b (x ∷ []) []) ≡ cond b (g x) []
  one-gives x true = append-nil (g x)
  one-gives x false = refl

  -- one more, which gives something where it passes
  pub given-next : (xs : List ℕ) (i x : ℕ) (start now new : List A) → i < length xs → get_or xs i x ≡ x → now ≡ start ++ flat_map g (filter p (take i xs)) →
      new ≡ now ++ cond (p x) (g x) [] → new ≡ start ++ flat_map g (filter p (take (i + 1) xs))
  given-next xs i x start now new within read so_far longer =
      let before = filter p (take i xs) in
      let more : filter p (take (i + 1) xs) ≡ before ++ cond (p x) (x ∷ []) [] =
      filter_more p xs i x within ∙ ap (λ y. before ++ cond (p y) (y ∷ []) []) read in
      longer
      ∙ ap (λ v. v ++ cond (p x) (g x) []) so_far
      ∙ append_assoc start (flat_map g before) (cond (p x) (g x) [])
      ∙ ap (λ v. start ++ v) (sym (ap (flat_map g) more ∙ flat_map-append g before (cond (p x) (x ∷ []) [])
      ∙ ap (λ v. flat_map g before ++ v) (one-gives x (p x))))

-- the same, where each gives one
module _ {A : Type 0} (p : ℕ → Bool) (g : ℕ → A) where
  pub kept-next : (xs : List ℕ) (i x : ℕ) (start now new : List A) → i < length xs → get_or xs i x ≡ x → now ≡ start ++ map g (filter p (take i xs)) →
      new ≡ now ++ cond (p x) (g x ∷ []) [] → new ≡ start ++ map g (filter p (take (i + 1) xs))
  kept-next xs i x start now new within read so_far longer =
      given-next p (λ y. g y ∷ []) xs i x start now new within read (so_far ∙ ap (λ v. start ++ v) (sym (flat_map_single g (filter p (take i xs))))) longer
      ∙ ap (λ v. start ++ v) (flat_map_single g (filter p (take (i + 1) xs)))
