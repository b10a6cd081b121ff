-- That none that passes comes behind a number of a list.
use Rattle.std.proofs.Common.{◌≡◌, ◌≢◌, ℕ, suc, ◌-◌, ◌<◌, Bool, true, false, cond, List, [], ◌∷◌, length, Option, Some, None, refl, sym, ap, ◌∙◌, subst, arith}
use Rattle.std.specs.Prelude.{filter, find, nat_eq, slice_get}
use Rattle.std.specs.Option.{IfSome, option_eq}
use Rattle.std.proofs.lemmas.Bool.Decides.{nat_tests}
use Rattle.node_trees.specs.Paths.{is_among}
use Rattle.node_trees.specs.Spots.{after, first_of}
use Rattle.tree_laws.proofs.Counts.{AreApart, count, count-among}
use Rattle.tree_laws.proofs.Children.{after-among}
use Rattle.tree_laws.proofs.Members.{first-filtered}
use Rattle.form_owner.specs.Groups.{all_after}
use Rattle.form_owner.specs.Moves.{HasNoneBehind, after_or_none}
use Rattle.form_owner.proofs.Groups.{all_after-step}

-- behind the last that passes

module _ (p : ℕ → Bool) where
  none-first : (m : ℕ) (ms : List ℕ) → find p ms ≡ None → HasNoneBehind p (m ∷ ms) m
  none-first m ms none = record { among = grind (arith, nat_tests); none = grind (arith, nat_tests, none) }

  none-more : (m l : ℕ) (ms : List ℕ) → AreApart (m ∷ ms) → HasNoneBehind p ms l → HasNoneBehind p (m ∷ ms) l
  none-more m l ms apart last =
      let one = apart l in
      let there : 0 < count l ms = count-among l ms last.among in
      let other : m ≢ l = λ same. let twice = ap (λ v. count l (v ∷ ms)) same in grind (arith, nat_tests, one, there, twice) in
      record { among = grind (arith, nat_tests, last.among); none = grind (arith, nat_tests, other, last.none) }

  pub none-last : (l : ℕ) (ms : List ℕ) → AreApart ms → slice_get (filter p ms) (length (filter p ms) - 1) ≡ Some l → HasNoneBehind p ms l
  none-last l [] apart e = absurd cc
  none-last l (m ∷ ms) apart e = by_test (none-last l ms (λ i. omega (arith, apart i))) (p m) e
    where
      by_rest : (slice_get (filter p ms) (length (filter p ms) - 1) ≡ Some l → HasNoneBehind p ms l) → (xs : List ℕ) → filter p ms ≡ xs
          → slice_get (m ∷ xs) (length (m ∷ xs) - 1) ≡ Some l → HasNoneBehind p (m ∷ ms) l
      by_rest more [] is e =
          let same : m ≡ l = cc in
          subst (HasNoneBehind p (m ∷ ms)) same (none-first m ms (first-filtered p ms ∙ ap first_of is))
      by_rest more (x ∷ xs) is e =
          let last : length (x ∷ xs) - 1 ≡ length xs = omega arith in
          let more_last : length (m ∷ x ∷ xs) - 1 ≡ suc (length xs) = omega arith in
          none-more m l ms apart (more (ap (λ v. slice_get v (length v - 1)) is ∙ ap (slice_get (x ∷ xs)) last ∙ sym (ap (slice_get (m ∷ x ∷ xs)) more_last)
          ∙ e))

      by_test : (slice_get (filter p ms) (length (filter p ms) - 1) ≡ Some l → HasNoneBehind p ms l) → (b : Bool)
          → slice_get (cond b (m ∷ filter p ms) (filter p ms)) (length (cond b (m ∷ filter p ms) (filter p ms)) - 1) ≡ Some l → HasNoneBehind p (m ∷ ms) l
      by_test more true e = by_rest more (filter p ms) refl e
      by_test more false e = none-more m l ms apart (more e)

-- on from there

module _ (p : ℕ → Bool) (order : List ℕ) (apart : AreApart order) where
  none-step : (n d : ℕ) → HasNoneBehind p order n → after n order ≡ Some d → HasNoneBehind p order d
  none-step n d here next =
      record { among = after-among n d order next; none = fails (p d) (sym (ap (find p) (all_after-step n d order apart next)) ∙ here.none) }
    where
      fails : (b : Bool) → cond b (Some d) (find p (all_after d order)) ≡ None → find p (all_after d order) ≡ None
      fails true e = absurd cc
      fails false e = e

  pub none-on : (o next : Option ℕ) → IfSome o (HasNoneBehind p order) → next ≡ after_or_none order o → IfSome next (HasNoneBehind p order)
  none-on o None here e = tt
  none-on None (Some d) here e = absurd cc
  none-on (Some n) (Some d) here e = none-step n d here (sym e)

  pub none-among : (o : Option ℕ) → IfSome o (HasNoneBehind p order) → IfSome o (λ n. is_among n order ≡ true)
  none-among None here = tt
  none-among (Some n) here = here.among

pub none-here : (p : ℕ → Bool) (order : List ℕ) (o : Option ℕ) (n : ℕ) → IfSome o (HasNoneBehind p order) → option_eq nat_eq o (Some n) ≡ true
    → None ≡ find p (all_after n order)
none-here p order None n here e = absurd cc
none-here p order (Some m) n here e = let same : m ≡ n = grind (arith, nat_tests, e) in subst (λ v. None ≡ find p (all_after v order)) same (sym here.none)
