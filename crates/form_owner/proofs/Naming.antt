-- Whom the elements with an ID may be named by.
use Rattle.std.proofs.Common.{◌≡◌, ℕ, Bool, true, false, ◌==◌, List, [], ◌∷◌, Option, Some, None, refl, sym, ap, ◌∙◌, subst}
use Rattle.std.specs.Prelude.{◌||◌, bytes_eq, codes}
use Rattle.std.specs.List.{list_any}
use Rattle.std.proofs.lemmas.Bool.{eqb-true, false_from_ne_true, or_parts}
use Rattle.std.proofs.lemmas.Slice.Eq.{bytes_eq-Decides}
use Rattle.node_trees.specs.Facts.{Facts, value_in}
use Rattle.node_trees.specs.Ids.{has_id}
use Rattle.node_trees.specs.Trees.{Trees}
use Rattle.node_trees.specs.Paths.{is_among}
use Rattle.node_trees.specs.Spots.{attribute_at, facts_at}
use Rattle.node_arena.proofs.Covering.{has_id-value}
use Rattle.form_owner.specs.Attributes.{is_naming}
use Rattle.form_owner.specs.Candidates.{is_named_by, is_named_among}

any-false : (p : ℕ → Bool) (xs : List ℕ) → list_any p xs ≡ false → (x : ℕ) → is_among x xs ≡ true → p x ≡ false
any-false p [] none x among = absurd cc
any-false p (y ∷ ys) none x among = by_test (any-false p ys (or_parts (p y) (list_any p ys) none).1 x) (y == x) refl among
  where
    by_test : (is_among x ys ≡ true → p x ≡ false) → (b : Bool) → (y == x) ≡ b → (b || is_among x ys) ≡ true → p x ≡ false
    by_test later true e h = subst (λ v. p v ≡ false) (eqb-true y x e) (or_parts (p y) (list_any p ys) none).0
    by_test later false e h = later h

module _ (old : Trees) (named : List ℕ → ℕ → Bool) (seen : (id : List ℕ) (n : ℕ) → named id n ≡ is_naming old id n) (now : Trees) (m : ℕ)
    (same : attribute_at now m (codes "form") ≡ attribute_at old m (codes "form")) where
  -- its `form` attribute was seen
  named-by : (id : List ℕ) → attribute_at now m (codes "form") ≡ Some id → named id m ≡ true
  named-by id is = seen id m ∙ ap by_text (sym same ∙ is) ∙ (bytes_eq-Decides id id).1 refl
    where
      by_text : Option (List ℕ) → Bool
      by_text None = false
      by_text (Some text) = bytes_eq text id

  -- an element with an ID that m does not name has not the ID that m names
  pub has-other : (o : Option (List ℕ)) → is_named_by named o m ≡ false → (id : List ℕ) → attribute_at now m (codes "form") ≡ Some id → (x : Facts)
      → value_in x.attributes (codes "id") ≡ o → has_id id x ≡ false
  has-other o none id is x is_o = false_from_ne_true (has_id id x) (λ has.
      let same_id : o ≡ Some id = sym is_o ∙ has_id-value id x has in
      let by : is_named_by named o m ≡ true = ap (λ v. is_named_by named v m) same_id ∙ named-by id is in
      absurd cc)

  pub none-named : (ns : List ℕ) → is_named_among now named ns m ≡ false → (id : List ℕ) (j : ℕ) → attribute_at now m (codes "form") ≡ Some id
      → is_among j ns ≡ true → has_id id (facts_at now j) ≡ false
  none-named ns none id j is among =
      has-other (attribute_at now j (codes "id")) (any-false (λ k. is_named_by named (attribute_at now k (codes "id")) m) ns none j among) id is
      (facts_at now j) refl
