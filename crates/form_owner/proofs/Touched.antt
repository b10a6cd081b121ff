-- After a touch: how many nodes there are, and who of them is a form-associated custom element.
use Rattle.std.proofs.Common.{◌≡◌, ◌≢◌, ℕ, ◌+◌, ◌-◌, ◌<◌, ◌==◌, Bool, true, false, cond, List, [], ◌∷◌, refl, sym, ap, ◌∙◌, subst, arith, inl, inr}
use Rattle.std.specs.Prelude.{◌||◌}
use Rattle.std.proofs.lemmas.Bool.{cases_eq}
use Rattle.std.proofs.lemmas.Bool.Decides.{nat_tests}
use Rattle.node_trees.specs.Trees.{Trees}
use Rattle.node_trees.specs.Nodes.{size, IsNode}
use Rattle.node_trees.specs.Paths.{is_among}
use Rattle.form_controls.specs.Owners.{Forms}
use Rattle.owner_rows.specs.OwnerRow.{OwnerRow, row_in}
use Rattle.form_owner.specs.declared.touch.Touch.{Touch}
use Rattle.form_owner.specs.declared.touch.Touch.TheVariants.{Inserted, Removed, Attr, Associated}
use Rattle.form_owner.specs.Stands.{KnowsAssociated}
use Rattle.form_owner.specs.Touches.{IsTouched, after_touch, with_associated}
use Rattle.form_owner.specs.Writing.{IsPlaced, Noted}

pub size-stays : (touch : Touch) (old new : Trees) → IsTouched touch old new → size new ≡ size old
size-stays (Inserted n) old new touched = touched.size_is
size-stays (Removed n parent) old new touched = touched.size_is
size-stays (Attr n) old new touched = touched.size_is
size-stays (Associated n on) old new touched = ap size touched.is

-- who is marked has a row
pub is-placed : (touch : Touch) (old new : Trees) (count : ℕ) → IsTouched touch old new → count ≡ size new → IsPlaced touch count
is-placed (Inserted n) old new count touched e = tt
is-placed (Removed n parent) old new count touched e = tt
is-placed (Attr n) old new count touched e = tt
is-placed (Associated n on) old new count touched e =
    let low = touched.element.node.low in
    let high = touched.element.node.high in
    omega (arith, e, ap size touched.is)

-- the rows know them after it

pub among-with : (n m : ℕ) (on : Bool) (ns : List ℕ) → is_among m (with_associated n on ns) ≡ cond (n == m) on (is_among m ns)
among-with n m true ns = by_test (n == m)
  where
    by_test : (b : Bool) → (b || is_among m ns) ≡ cond b true (is_among m ns)
    by_test true = refl
    by_test false = refl
among-with n m false [] = by_test (n == m)
  where
    by_test : (b : Bool) → false ≡ cond b false false
    by_test true = refl
    by_test false = refl
among-with n m false (k ∷ ns) = let more = among-with n m false ns in grind (arith, nat_tests, more)

module _ (before : Forms) (now : Trees) (old new : List OwnerRow) (knows : KnowsAssociated old before) where
  -- none was marked
  known-as-before : size now ≡ size before.forest → new ≡ old → KnowsAssociated new (record { forest = now; associated = before.associated })
  known-as-before e same = record {
    flags = λ i. ap (λ rows. (row_in rows i).associated) same ∙ knows.flags i;
    nodes = λ m h. let node = knows.nodes m h in record { low = node.low; high = omega (arith, node.high, e) };
  }

  pub known : (touch : Touch) → IsTouched touch before.forest now → Noted touch old new → KnowsAssociated new (after_touch touch before now)
  known (Inserted n) touched noted = known-as-before touched.size_is noted
  known (Removed n parent) touched noted = known-as-before touched.size_is noted
  known (Attr n) touched noted = known-as-before touched.size_is noted
  known (Associated n on) touched noted = record { flags = flags; nodes = nodes }
    where
      low : 0 < n
      low = touched.element.node.low

      flags : (i : ℕ) → (row_in new i).associated ≡ is_among (i + 1) (with_associated n on before.associated)
      flags i = elim (cases_eq i (n - 1)) [
        | inl e ↦
            let same : n ≡ i + 1 = omega (arith, low) in
            let there : (row_in new i).associated ≡ on = subst (λ k. (row_in new k).associated ≡ on) (sym e) (ap (λ (r : OwnerRow). r.associated) noted.here) in
            there ∙ sym (among-with n (i + 1) on before.associated ∙ grind (arith, nat_tests))
        | inr ne ↦
            let other : n ≢ i + 1 = λ e. ne (omega arith) in
            ap (λ (r : OwnerRow). r.associated) (noted.others i ne) ∙ knows.flags i ∙ sym (among-with n (i + 1) on before.associated ∙ grind (arith, nat_tests))
      ]

      nodes : (m : ℕ) → is_among m (with_associated n on before.associated) ≡ true → IsNode now m
      nodes m h = elim (cases_eq n m) [
        | inl e ↦ subst (λ f. IsNode f m) (sym touched.is) (subst (IsNode before.forest) e touched.element.node)
        | inr ne ↦
            let was : is_among m before.associated ≡ true = let with = among-with n m on before.associated in grind (arith, nat_tests, with) in
            subst (λ f. IsNode f m) (sym touched.is) (knows.nodes m was)
      ]

-- what a mark isn't about stays in the rows
pub noted-keeps : {A : Type 0} (read : OwnerRow → A) → ((row : OwnerRow) (on : Bool) → read (record row { associated = on }) ≡ read row)
    → (touch : Touch) (old new : List OwnerRow) → Noted touch old new → (i : ℕ) → read (row_in new i) ≡ read (row_in old i)
noted-keeps read keeps (Inserted n) old new noted i = ap (λ rows. read (row_in rows i)) noted
noted-keeps read keeps (Removed n parent) old new noted i = ap (λ rows. read (row_in rows i)) noted
noted-keeps read keeps (Attr n) old new noted i = ap (λ rows. read (row_in rows i)) noted
noted-keeps read keeps (Associated n on) old new noted i = elim (cases_eq i (n - 1)) [
  | inl e ↦ subst (λ k. read (row_in new k) ≡ read (row_in old k)) (sym e) (ap read noted.here ∙ keeps (row_in old (n - 1)) on)
  | inr ne ↦ ap read (noted.others i ne)
]
