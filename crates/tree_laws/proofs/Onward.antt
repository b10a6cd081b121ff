-- A search along a list, by what follows each number.
use Rattle.std.proofs.Common.{◌≡◌, ◌≢◌, ℕ, Bool, true, false, ◌<◌, ◌==◌, if◌then◌else◌, List, [], ◌∷◌, Some, None, ap, arith, inl, inr, length}
use Rattle.std.specs.List.{find}
use Rattle.std.proofs.lemmas.Bool.Decides.{nat_tests}
use Rattle.std.proofs.lemmas.Bool.{cases_eq}
use Rattle.node_trees.specs.Paths.{is_among}
use Rattle.node_trees.specs.Spots.{after}
use Rattle.tree_laws.proofs.Counts.{count, AreApart, count-among}
use Rattle.tree_laws.proofs.Children.{after-among}

-- the list from n on
abbrev pub onward : ℕ → List ℕ → List ℕ
onward n [] = []
onward n (m ∷ ms) = if m == n then m ∷ ms else onward n ms

-- the list from n on is n, and then the list from what follows n
pub onward-last : (n : ℕ) (ms : List ℕ) → is_among n ms ≡ true → after n ms ≡ None → onward n ms ≡ n ∷ []
onward-last n [] h e = cc
onward-last n (m ∷ []) h e = grind (arith, nat_tests)
onward-last n (m ∷ j ∷ ms) h e = grind (arith, nat_tests, onward-last n (j ∷ ms))

pub onward-step : (n d : ℕ) (ms : List ℕ) → AreApart ms → after n ms ≡ Some d → onward n ms ≡ n ∷ onward d ms
onward-step n d [] apart e = cc
onward-step n d (m ∷ []) apart e = grind (arith, nat_tests)
onward-step n d (m ∷ j ∷ ms) apart e =
    let one_d = apart d in
    let low : after n (j ∷ ms) ≡ Some d → 0 < count d (j ∷ ms) = λ h. count-among d (j ∷ ms) (after-among n d (j ∷ ms) h) in
    let on = onward-step n d (j ∷ ms) (λ i. omega (arith, apart i)) in
    grind (arith, nat_tests, on, low)

module _ (p : ℕ → Bool) where
  -- found at n
  pub find-here : (n : ℕ) (ms : List ℕ) → is_among n ms ≡ true → p n ≡ true → find p (onward n ms) ≡ Some n
  find-here n [] h t = cc
  find-here n (m ∷ ms) h t = grind (arith, nat_tests, find-here n ms)

  -- not at n, and n is the last
  pub find-last : (n : ℕ) (ms : List ℕ) → is_among n ms ≡ true → p n ≡ false → after n ms ≡ None → find p (onward n ms) ≡ None
  find-last n ms h t e = rw (onward-last n ms h e) (grind (arith, nat_tests))

  -- not at n: on from what follows
  pub find-step : (n d : ℕ) (ms : List ℕ) → AreApart ms → p n ≡ false → after n ms ≡ Some d → find p (onward n ms) ≡ find p (onward d ms)
  find-step n d ms apart t e = rw (onward-step n d ms apart e) (grind (arith, nat_tests))

pub onward-less : (n d : ℕ) (ms : List ℕ) → AreApart ms → after n ms ≡ Some d → length (onward d ms) < length (onward n ms)
onward-less n d ms apart e = omega (arith, ap length (onward-step n d ms apart e))

-- what follows n is another
pub after-other : (n d : ℕ) (ms : List ℕ) → AreApart ms → after n ms ≡ Some d → d ≢ n
after-other n d [] apart e same = cc
after-other n d (m ∷ []) apart e same = absurd (grind (arith, nat_tests))
after-other n d (m ∷ j ∷ ms) apart e same =
    let one = apart n in
    elim (cases_eq m n) [
      | inl here ↦ absurd (grind (arith, nat_tests))
      | inr ne ↦ after-other n d (j ∷ ms) (λ i. omega (arith, apart i)) (grind (arith, nat_tests)) same
    ]
