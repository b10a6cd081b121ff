-- What is read of those nodes alone that may have changed is what is read of all.
use Rattle.std.proofs.Common.{◌≡◌, ◌≢◌, All, ℕ, zero, suc, ◌+◌, ◌<◌, ◌≤◌, Bool, true, false, cond, List, [], ◌∷◌, get_or, refl, sym, ap, ◌∙◌, subst, arith, inl}
use Rattle.std.proofs.Common.{inr}
use Rattle.std.specs.Prelude.{filter, map}
use Rattle.std.specs.List.{range_with_len}
use Rattle.std.specs.List.Sorted.{IsStrictlyIncreasing}
use Rattle.std.proofs.lemmas.Bool.{cases_eq}
use Rattle.std.proofs.lemmas.Bool.Decides.{nat_tests}
use Rattle.node_trees.specs.Trees.{Trees}
use Rattle.node_trees.specs.Nodes.{IsNode, size}
use Rattle.node_trees.specs.Paths.{is_among}
use Rattle.form_controls.specs.Changes.{is_change, numbers}
use Rattle.owner_rows.specs.OwnerRow.{OwnerRow}
use Rattle.form_owner.specs.Reading.{change_read, changes_read}
use Rattle.form_owner.proofs.Nodes.{all-among}

-- numbers that rise

behind : (x : ℕ) (xs : List ℕ) → IsStrictlyIncreasing (x ∷ xs) → IsStrictlyIncreasing xs
behind x xs rising k lt =
    let more : suc k + 1 ≡ suc (k + 1) = omega arith in
    subst (λ i. get_or xs k 0 < get_or (x ∷ xs) i 0) more (rising (suc k) (omega (arith, lt)))

above : (x : ℕ) (xs : List ℕ) → IsStrictlyIncreasing (x ∷ xs) → (m : ℕ) → is_among m xs ≡ true → x < m
above x [] rising m among = absurd cc
above x (y ∷ ys) rising m among =
    let first : x < y = rising 0 (omega arith) in
    elim (cases_eq y m) [
      | inl e ↦ omega (arith, first, e)
      | inr ne ↦
          let rest : is_among m ys ≡ true = grind (arith, nat_tests, among, ne) in
          let later = above y ys (behind x (y ∷ ys) rising) m rest in
          omega (arith, first, later)
    ]

module _ (test : ℕ → Bool) where
  passes-first : (a : ℕ) (xs ys : List ℕ) → filter test xs ≡ filter test ys → filter test (a ∷ xs) ≡ filter test (a ∷ ys)
  passes-first a xs ys same = ap (λ v. cond (test a) (a ∷ v) v) same

  fails-first : (a : ℕ) (xs : List ℕ) → test a ≡ false → filter test (a ∷ xs) ≡ filter test xs
  fails-first a xs fails = rw fails refl

  -- those of a range that a test may be true of
  within : (a n : ℕ) (cs : List ℕ) → IsStrictlyIncreasing cs → ((m : ℕ) → is_among m cs ≡ true → a ≤ m) → ((m : ℕ) → is_among m cs ≡ true → m < a + n)
      → ((m : ℕ) → a ≤ m → m < a + n → is_among m cs ≡ false → test m ≡ false) →
      filter test cs ≡ filter test (range_with_len a n)
  within a zero [] rising low high outside = refl
  within a zero (x ∷ xs) rising low high outside =
      let among : is_among x (x ∷ xs) ≡ true = grind (arith, nat_tests) in
      let at_least = low x among in
      let below = high x among in
      absurd (omega (arith, at_least, below))
  within a (suc n) [] rising low high outside =
      within (a + 1) n [] rising (λ m among. absurd cc) (λ m among. absurd cc) (λ m le lt out. outside m (omega (arith, le)) (omega (arith, lt)) out)
      ∙ sym (fails-first a (range_with_len (a + 1) n) (outside a (omega arith) (omega arith) refl))
  within a (suc n) (x ∷ xs) rising low high outside = elim (cases_eq x a) [
    | inl e ↦
        passes-first x xs (range_with_len (a + 1) n)
        (within (a + 1) n xs (behind x xs rising)
        (λ m among. let more = above x xs rising m among in omega (arith, more, e))
        (λ m among. let less = high m (later m among) in omega (arith, less))
        (λ m le lt out. outside m (omega (arith, le)) (omega (arith, lt))
        (let other : x ≢ m = λ same. absurd (omega (arith, le, same, e)) in grind (arith, nat_tests, out, other))))
        ∙ ap (λ v. filter test (v ∷ range_with_len (a + 1) n)) e
    | inr ne ↦
        let here : is_among x (x ∷ xs) ≡ true = grind (arith, nat_tests) in
        let least = low x here in
        let out_a : is_among a (x ∷ xs) ≡ false = not-here least ne (is_among a (x ∷ xs)) refl in
        within (a + 1) n (x ∷ xs) rising
        (λ m among. from-first least ne m among)
        (λ m among. let less = high m among in omega (arith, less))
        (λ m le lt out. outside m (omega (arith, le)) (omega (arith, lt)) out)
        ∙ sym (fails-first a (range_with_len (a + 1) n) (outside a (omega arith) (omega arith) out_a))
  ]
    where
      later : (m : ℕ) → is_among m xs ≡ true → is_among m (x ∷ xs) ≡ true
      later m among = grind (arith, nat_tests, among)

      from-first : a ≤ x → x ≢ a → (m : ℕ) → is_among m (x ∷ xs) ≡ true → a + 1 ≤ m
      from-first least ne m among = elim (cases_eq x m) [
        | inl e ↦ omega (arith, least, ne, e)
        | inr other ↦
            let rest : is_among m xs ≡ true = grind (arith, nat_tests, among, other) in
            let more = above x xs rising m rest in
            omega (arith, least, more)
      ]

      not-here : a ≤ x → x ≢ a → (b : Bool) → is_among a (x ∷ xs) ≡ b → b ≡ false
      not-here least ne true among = absurd (let more = from-first least ne a among in omega (arith, more))
      not-here least ne false among = refl

pub changes-covered : (f : Trees) (rows : List OwnerRow) (cs : List ℕ) → IsStrictlyIncreasing cs → All (IsNode f) cs
    → ((n : ℕ) → IsNode f n → is_among n cs ≡ false → is_change (change_read f rows n) ≡ false) →
    changes_read f rows cs ≡ changes_read f rows (numbers f)
changes-covered f rows cs rising nodes covers =
    ap (map (change_read f rows))
    (within (λ n. is_change (change_read f rows n)) 1 (size f) cs rising
    (λ m among. let node = all-among (IsNode f) cs nodes m among in node.low)
    (λ m among. let node = all-among (IsNode f) cs nodes m among in let high = node.high in omega (arith, high))
    (λ m le lt out. covers m (record { low = omega (arith, le); high = omega (arith, lt) }) out))
