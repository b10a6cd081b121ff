-- The first legend of a fieldset.
use Rattle.std.proofs.Common.{◌≡◌, ℕ, Bool, true, false, not, ◌||◌, ◌==◌, List, [], ◌∷◌, Option, Some, None, refl, ap, sym, ◌∙◌, arith}
use Rattle.std.specs.Prelude.{find}
use Rattle.std.proofs.lemmas.Bool.Decides.{nat_tests}
use Rattle.element_names.specs.declared.natives.Native.TheVariants.{Legend}
use Rattle.node_trees.specs.Trees.{Trees, is_number}
use Rattle.node_trees.specs.Nodes.{IsNode, IsNodeOrNone, IsTidy}
use Rattle.node_trees.specs.Paths.{is_among}
use Rattle.node_trees.specs.Spots.{parent_at, children_at, first_child_at, next_sibling_at}
use Rattle.tree_laws.proofs.Children.{child-node, child-parent}
use Rattle.tree_laws.proofs.Members.{among-found}
use Rattle.tree_laws.proofs.Siblings.{IsChildOrNone, child-first, children-first, child-next, children-split, children_from}
use Rattle.form_controls.specs.Disabled.{first_legend, is_inside}
use Rattle.form_controls.specs.Kinds.{is_a}
use Rattle.form_controls.specs.Owners.{ancestors}
use Rattle.owner_reading.proofs.Ancestors.{ancestors-up}
use Rattle.disabled_reading.proofs.Ways.{child-on-way}

-- ---- what is found among the children

-- what fails is not found
pub find-other : (p : ℕ → Bool) (xs : List ℕ) (n : ℕ) → p n ≡ false → is_number (find p xs) n ≡ false
find-other p [] n fails = refl
find-other p (x ∷ xs) n fails = grind (arith, nat_tests, find-other p xs n)

-- ---- the loop over the children

-- what the loop keeps: no child before `at` is a legend
pub record Seeking (f : Trees) (p : ℕ) (at : Option ℕ) : Type 0 where
  pub child : IsChildOrNone f p at
  pub is : first_legend f p ≡ find (is_a Legend f) (children_from f p at)

module _ (f : Trees) (p : ℕ) (tidy : IsTidy f) (node : IsNode f p) where
  pub seek-start : (at : Option ℕ) → at ≡ first_child_at f p → IsNodeOrNone f at → Seeking f p at
  seek-start at e is = record { child = child-first f p tidy node at e is; is = ap (find (is_a Legend f)) (sym (children-first f p tidy node at e)) }

  module _ (at : Option ℕ) (c : ℕ) (here : at ≡ Some c) (s : Seeking f p at) (d : Option ℕ) (e : d ≡ next_sibling_at f c) where
    pub seek-found : is_a Legend f c ≡ true → Some c ≡ first_legend f p
    seek-found it = sym (s.is ∙ ap (find (is_a Legend f)) (children-split f p tidy node at c here s.child d e) ∙ grind (arith, it))

    pub seek-on : is_a Legend f c ≡ false → IsNodeOrNone f d → Seeking f p d
    seek-on other is = record {
      child = child-next f p tidy node at c here s.child d e is;
      is = s.is ∙ ap (find (is_a Legend f)) (children-split f p tidy node at c here s.child d e) ∙ grind (arith, other);
    }

  pub seek-end : (at : Option ℕ) → at ≡ None → Seeking f p at → None ≡ first_legend f p
  seek-end at e s = sym (s.is ∙ ap (λ o. find (is_a Legend f) (children_from f p o)) e)

-- ---- what is inside it

module _ (f : Trees) (n child fieldset : ℕ) (tidy : IsTidy f) (node : IsNode f n) (child_node : IsNode f child) (fieldset_node : IsNode f fieldset) where
  -- n is inside the first legend where the child on the way up is that legend, and is not n
  pub inside-first : is_among child (n ∷ ancestors f n) ≡ true → parent_at f child ≡ Some fieldset →
      not (is_inside f n (first_legend f fieldset)) ≡ (child == n || not (is_number (first_legend f fieldset) child))
  inside-first among up = by_first (first_legend f fieldset) refl
    where
      by_first : (o : Option ℕ) → first_legend f fieldset ≡ o → not (is_inside f n o) ≡ (child == n || not (is_number o child))
      by_first None e = grind arith
      by_first (Some l) e =
          let here = among-found (is_a Legend f) (children_at f fieldset) l e in
          let l_up = ancestors-up f l tidy (child-node f fieldset tidy fieldset_node l here) fieldset (child-parent f fieldset tidy fieldset_node l here) in
          let child_up = ancestors-up f child tidy child_node fieldset up in
          rw (child-on-way f n tidy node child l among (l_up ∙ sym child_up)) (grind (arith, nat_tests))
