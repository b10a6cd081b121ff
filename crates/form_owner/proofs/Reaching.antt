-- What the parts of a touch's reach come to.
use Rattle.std.proofs.Common.{◌≡◌, ℕ, Bool, true, false, List, [], ◌∷◌, Option, ap, ◌∙◌, refl, subst, sym, ◌==◌}
use Rattle.std.specs.Prelude.{not, ◌&&◌, ◌||◌, codes}
use Rattle.std.specs.Bool.{beq}
use Rattle.std.proofs.lemmas.Bool.{and_parts}
use Rattle.node_trees.specs.Trees.{Trees}
use Rattle.node_trees.specs.Orders.{order_of}
use Rattle.node_trees.specs.Paths.{is_among}
use Rattle.node_trees.specs.Spots.{attribute_at}
use Rattle.form_controls.specs.Disabled.{has_disabled}
use Rattle.owner_rows.specs.OwnerRow.{OwnerRow, row_of}
use Rattle.form_owner.specs.Candidates.{Considers, is_named_among, is_named_by, is_of_change, is_of_group, is_of_ids, is_of_legend, is_of_move, is_with}
use Rattle.form_owner.specs.Candidates.{is_with_among}
use Rattle.form_owner.proofs.Considering.{both, from_none, less, nothing}

module _ (forest : Trees) (about : ℕ → Bool) (named : List ℕ → ℕ → Bool) (n : ℕ) where
  -- of a move

  regroup : (a b c d : Bool) → ((a || b) || (c || d)) ≡ ((a || c) || (b || d))
  regroup true b c d = refl
  regroup false true true d = refl
  regroup false true false d = refl
  regroup false false c d = refl

  or-assoc : (a b c : Bool) → ((a || b) || c) ≡ (a || (b || c))
  or-assoc true b c = refl
  or-assoc false b c = refl

  -- who is considered with some nodes is one of them, or names an ID of one
  with-parts : (ns : List ℕ) (m : ℕ) → is_with_among forest named ns m ≡ (is_among m ns || is_named_among forest named ns m)
  with-parts [] m = refl
  with-parts (j ∷ ns) m =
      ap (λ b. is_with forest named j m || b) (with-parts ns m)
      ∙ regroup (j == m) (is_named_by named (attribute_at forest j (codes "id")) m) (is_among m ns) (is_named_among forest named ns m)

  pub of-move : (p : ℕ) (start first second : List ℕ) → start ≡ [] → Considers forest about (is_with_among forest named (order_of forest n)) start first
      → Considers forest about (is_of_legend forest n p) first second →
      Considers forest about (is_of_move forest named n p) [] second
  of-move p start first second empty moved legend = from_none empty (less within (both moved legend))
    where
      within : (m : ℕ) → is_of_move forest named n p m ≡ true → (is_with_among forest named (order_of forest n) m || is_of_legend forest n p m) ≡ true
      within m passes =
          ap (λ b. b || is_of_legend forest n p m) (with-parts (order_of forest n) m)
          ∙ or-assoc (is_among m (order_of forest n)) (is_named_among forest named (order_of forest n) m) (is_of_legend forest n p m)
          ∙ passes

  -- where `disabled` came or went, its group is considered
  abbrev pub is_of_disabled : List OwnerRow → ℕ → Bool
  is_of_disabled rows m = not (beq (row_of rows n).seen.disabled (has_disabled forest n)) && is_of_group forest n m

  module _ (rows : List OwnerRow) where
    pub grouped : (old new : List ℕ) → Considers forest about (is_of_group forest n) old new → Considers forest about (is_of_disabled rows) old new
    grouped old new all = less (λ m passes. (and_parts (not (beq (row_of rows n).seen.disabled (has_disabled forest n))) (is_of_group forest n m) passes).1) all

    pub ungrouped : (old new : List ℕ) → new ≡ old → not (beq (row_of rows n).seen.disabled (has_disabled forest n)) ≡ false
        → Considers forest about (is_of_disabled rows) old new
    ungrouped old new same alike =
        subst (λ s. Considers forest about (is_of_disabled rows) old s) (sym same)
        (nothing (is_of_disabled rows) old (λ m is. ap (λ b. b && is_of_group forest n m) alike))

    -- of an attribute
    pub of-change : (old : Option (List ℕ)) (now : Option (List ℕ)) (start first second third : List ℕ) → start ≡ [] → old ≡ (row_of rows n).seen.id
        → now ≡ attribute_at forest n (codes "id") → Considers forest about (λ m. n == m) start first →
        Considers forest about (is_of_ids named old now) first second → Considers forest about (is_of_disabled rows) second third
        → Considers forest about (is_of_change forest rows named n) [] third
    of-change old now start first second third empty was is itself ids group = from_none empty (both itself (both all_ids group))
      where
        all_ids : Considers forest about (is_of_ids named (row_of rows n).seen.id (attribute_at forest n (codes "id"))) first second
        all_ids = less (λ m passes. ap (λ o. is_of_ids named o now m) was ∙ ap (λ o. is_of_ids named (row_of rows n).seen.id o m) is ∙ passes) ids
