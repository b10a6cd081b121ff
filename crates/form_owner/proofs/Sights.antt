-- What the table sees of attributes once an element that was touched is seen anew.
use Rattle.std.proofs.Common.{◌≡◌, ◌≢◌, ℕ, ◌+◌, ◌-◌, Bool, true, false, ◌==◌, cond, List, refl, sym, ap, ◌∙◌, subst, arith, inl, inr}
use Rattle.std.specs.Prelude.{codes, is_some}
use Rattle.std.proofs.lemmas.Bool.{cases_eq}
use Rattle.std.proofs.lemmas.Bool.Decides.{nat_tests}
use Rattle.node_trees.specs.Facts.{Facts, value_in}
use Rattle.node_trees.specs.Trees.{Trees}
use Rattle.node_trees.specs.Nodes.{IsNode, size}
use Rattle.node_trees.specs.Spots.{facts_at}
use Rattle.owner_rows.specs.OwnerRow.{OwnerRow, Seen, row_in}
use Rattle.owner_rows.specs.Attributes.{seen_at}
use Rattle.form_owner.specs.declared.touch.Touch.{Touch}
use Rattle.form_owner.specs.declared.touch.Touch.TheVariants.{Inserted, Removed, Attr, Associated}
use Rattle.form_owner.specs.Attributes.{is_naming, is_text}
use Rattle.form_owner.specs.Touches.{IsTouched}
use Rattle.form_owner.specs.Writing.{AreNoted, AreSeen, AreSeenBy, AreUnseen, IsSeenPlaced, unseen}
use Rattle.form_owner.proofs.Touching.{facts-stay}

seen-same : (old new : Trees) (m : ℕ) → facts_at new m ≡ facts_at old m → seen_at new m ≡ seen_at old m
seen-same old new m same = ap seen_of same
  where
    seen_of : Facts → Seen
    seen_of x = record {
      id = value_in x.attributes (codes "id");
      form = value_in x.attributes (codes "form");
      disabled = is_some (value_in x.attributes (codes "disabled"));
    }

naming-same : (old new : Trees) (id : List ℕ) (m : ℕ) → facts_at new m ≡ facts_at old m → is_naming new id m ≡ is_naming old id m
naming-same old new id m same = ap (λ (x : Facts). is_text id (value_in x.attributes (codes "form"))) same

-- who is to be seen has a row
pub seen-placed : (touch : Touch) (old new : Trees) (count : ℕ) → IsTouched touch old new → count ≡ size new → IsSeenPlaced touch new count
seen-placed (Inserted n) old new count t e = tt
seen-placed (Removed n parent) old new count t e = tt
seen-placed (Attr n) old new count t e =
    let low = t.element.node.low in
    let high = t.element.node.high in
    (record { low = low; high = omega (arith, high, t.size_is) }, omega (arith, low, high, t.size_is, e))
seen-placed (Associated n on) old new count t e = tt

-- what was seen is what is noted
pub noted-before : (old : Trees) (read : List OwnerRow) (was : List ℕ → ℕ → Bool) → ((i : ℕ) → (row_in read i).seen ≡ seen_at old (i + 1))
    → ((id : List ℕ) (n : ℕ) → was id n ≡ is_naming old id n) → AreNoted read was
noted-before old read was read_seen named id n low = let same : (n - 1) + 1 ≡ n =
    omega arith in named id n ∙ sym (ap (λ (s : Seen). is_text id s.form) (read_seen (n - 1) ∙ ap (seen_at old) same))

module _ (old new : Trees) (read final : List OwnerRow) (was now : List ℕ → ℕ → Bool) (read_seen : (i : ℕ) → (row_in read i).seen ≡ seen_at old (i + 1))
    (named : (id : List ℕ) (n : ℕ) → was id n ≡ is_naming old id n) where
  -- what is seen is what the trees say
  pub record Sees : Type 0 where
    pub rows : (i : ℕ) → (row_in final i).seen ≡ seen_at new (i + 1)
    pub index : (id : List ℕ) (n : ℕ) → now id n ≡ is_naming new id n
    pub rest : (i : ℕ) → unseen (row_in final i) ≡ unseen (row_in read i)

  unchanged : AreUnseen read final was now → ((m : ℕ) → facts_at new m ≡ facts_at old m) → Sees
  unchanged s facts = record {
    rows = λ i. ap (λ rows. (row_in rows i).seen) s.rows ∙ read_seen i ∙ sym (seen-same old new (i + 1) (facts (i + 1)));
    index = λ id n. s.named id n ∙ named id n ∙ sym (naming-same old new id n (facts n));
    rest = λ i. ap (λ rows. unseen (row_in rows i)) s.rows;
  }

  module _ (n : ℕ) (node : IsNode old n) (s : AreSeen new n read final was now) (facts : (m : ℕ) → (n == m) ≡ false → facts_at new m ≡ facts_at old m) where
    changed : Sees
    changed = record { rows = rows; index = index; rest = rest }
      where
        rows : (i : ℕ) → (row_in final i).seen ≡ seen_at new (i + 1)
        rows i = elim (cases_eq i (n - 1)) [
          | inl e ↦
              let low = node.low in
              let is : n ≡ i + 1 = omega arith in
              subst (λ k. (row_in final k).seen ≡ seen_at new n) (sym e) (ap (λ (r : OwnerRow). r.seen) s.row.here) ∙ ap (seen_at new) is
          | inr ne ↦
              let low = node.low in
              let apart : (n == i + 1) ≡ false = let other : n ≢ i + 1 = λ e. ne (omega (arith, e, low)) in grind (arith, nat_tests, other) in
              ap (λ (r : OwnerRow). r.seen) (s.row.others i ne) ∙ read_seen i ∙ sym (seen-same old new (i + 1) (facts (i + 1) apart))
        ]

        index : (id : List ℕ) (m : ℕ) → now id m ≡ is_naming new id m
        index id m = by_test (n == m) refl
          where
            by_test : (b : Bool) → (n == m) ≡ b → now id m ≡ is_naming new id m
            by_test true e = s.named id m ∙ ap (λ b. cond b (is_naming new id n) (was id m)) e
                ∙ ap (is_naming new id) (let same : n ≡ m = grind (arith, nat_tests, e) in same)
            by_test false e = s.named id m ∙ ap (λ b. cond b (is_naming new id n) (was id m)) e ∙ named id m ∙ sym (naming-same old new id m (facts m e))

        rest : (i : ℕ) → unseen (row_in final i) ≡ unseen (row_in read i)
        rest i = elim (cases_eq i (n - 1)) [
          | inl e ↦ subst (λ k. unseen (row_in final k) ≡ unseen (row_in read k)) (sym e) (ap unseen s.row.here)
          | inr ne ↦ ap unseen (s.row.others i ne)
        ]

  pub sees-now : (touch : Touch) → IsTouched touch old new → AreSeenBy touch new read final was now → Sees
  sees-now (Inserted n) t s = unchanged s (λ m. facts-stay (Inserted n) old new t m refl)
  sees-now (Removed n parent) t s = unchanged s (λ m. facts-stay (Removed n parent) old new t m refl)
  sees-now (Attr n) t s = changed n t.element.node s (λ m apart. facts-stay (Attr n) old new t m apart)
  sees-now (Associated n on) t s = unchanged s (λ m. facts-stay (Associated n on) old new t m refl)
