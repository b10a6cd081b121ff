-- The loops over the children of a node, from the first on by the next sibling.
use Rattle.std.proofs.Common.{◌≡◌, ℕ, Bool, true, false, ◌<◌, List, [], ◌∷◌, ◌++◌, Option, Some, None, refl, ap, sym, ◌∙◌, subst, arith, length, append_assoc}
use Rattle.std.proofs.Common.{append-nil}
use Rattle.std.specs.List.{list_any}
use Rattle.std.proofs.lemmas.Bool.Decides.{nat_tests}
use Rattle.node_trees.specs.Facts.{is_element}
use Rattle.node_trees.specs.Trees.{Trees}
use Rattle.node_trees.specs.Nodes.{IsNode, IsNodeOrNone, IsTidy}
use Rattle.node_trees.specs.Insertion.{has_element_child}
use Rattle.node_trees.specs.Paths.{is_among}
use Rattle.node_trees.specs.Spots.{kind_at, children_at, first_child_at, next_sibling_at, first_of, after, next_among}
use Rattle.tree_laws.proofs.Children.{child-parent, children_at-apart, after-among}
use Rattle.tree_laws.proofs.Counts.{AreApart}
use Rattle.tree_laws.proofs.Onward.{onward, onward-last, onward-step}

-- the list from a number on; nothing where there is none
abbrev pub from : Option ℕ → List ℕ → List ℕ
from None ms = []
from (Some c) ms = onward c ms

from-first : (ms : List ℕ) → from (first_of ms) ms ≡ ms
from-first [] = refl
from-first (m ∷ ms) = grind (arith, nat_tests)

from-step : (c : ℕ) (ms : List ℕ) → AreApart ms → is_among c ms ≡ true → onward c ms ≡ c ∷ from (after c ms) ms
from-step c ms apart among = go (after c ms) refl
  where
    go : (o : Option ℕ) → after c ms ≡ o → onward c ms ≡ c ∷ from o ms
    go None e = onward-last c ms among e
    go (Some d) e = onward-step c d ms apart e

pub first-among : (c : ℕ) (ms : List ℕ) → first_of ms ≡ Some c → is_among c ms ≡ true
first-among c [] e = absurd cc
first-among c (m ∷ ms) e = let same : m ≡ c = cc in grind (arith, nat_tests)

-- the children from one on
abbrev pub children_from : Trees → ℕ → Option ℕ → List ℕ
children_from f p at = from at (children_at f p)

-- `at` is a child of p, or none
pub record IsChildOrNone (f : Trees) (p : ℕ) (at : Option ℕ) : Type 0 where
  pub node : IsNodeOrNone f at
  pub among : (c : ℕ) → at ≡ Some c → is_among c (children_at f p) ≡ true

module _ (f : Trees) (p : ℕ) (tidy : IsTidy f) (is : IsNode f p) where
  pub child-first : (at : Option ℕ) → at ≡ first_child_at f p → IsNodeOrNone f at → IsChildOrNone f p at
  child-first at e node = record { node = node; among = λ c some. first-among c (children_at f p) (sym e ∙ some) }

  pub children-first : (at : Option ℕ) → at ≡ first_child_at f p → children_from f p at ≡ children_at f p
  children-first at e = ap (children_from f p) e ∙ from-first (children_at f p)

  -- at a child
  module _ (at : Option ℕ) (c : ℕ) (here : at ≡ Some c) (child : IsChildOrNone f p at) where
    pub child-is_node : IsNode f c
    child-is_node = subst (IsNodeOrNone f) here child.node

    next-is : next_sibling_at f c ≡ after c (children_at f p)
    next-is = ap (next_among f c) (child-parent f p tidy is c (child.among c here))

    module _ (d : Option ℕ) (e : d ≡ next_sibling_at f c) where
      pub child-next : IsNodeOrNone f d → IsChildOrNone f p d
      child-next node = record { node = node; among = λ b some. after-among c b (children_at f p) (sym (e ∙ next-is) ∙ some) }

      pub children-split : children_from f p at ≡ c ∷ children_from f p d
      children-split = ap (children_from f p) here ∙ from-step c (children_at f p) (children_at-apart f p tidy is) (child.among c here)
          ∙ ap (λ o. c ∷ children_from f p o) (sym (e ∙ next-is))

      pub children-less : length (children_from f p d) < length (children_from f p at)
      children-less = omega (arith, ap length children-split)

-- ---- the children listed

-- what the loop keeps: what is listed with the children from `at` on are all
pub record Listing (f : Trees) (p : ℕ) (at : Option ℕ) (out : List ℕ) : Type 0 where
  pub child : IsChildOrNone f p at
  pub is : out ++ children_from f p at ≡ children_at f p

module _ (f : Trees) (p : ℕ) (tidy : IsTidy f) (is : IsNode f p) where
  pub list-start : (at : Option ℕ) → at ≡ first_child_at f p → IsNodeOrNone f at → Listing f p at []
  list-start at e node = record { child = child-first f p tidy is at e node; is = children-first f p tidy is at e }

  pub list-on : (at : Option ℕ) (c : ℕ) (out out' : List ℕ) (d : Option ℕ) → at ≡ Some c → Listing f p at out → d ≡ next_sibling_at f c → IsNodeOrNone f d
      → out' ≡ out ++ c ∷ [] → Listing f p d out'
  list-on at c out out' d here l e node grown = record {
    child = child-next f p tidy is at c here l.child d e node;
    is = ap (λ xs. xs ++ children_from f p d) grown ∙ append_assoc out (c ∷ []) (children_from f p d)
        ∙ ap (λ xs. out ++ xs) (sym (children-split f p tidy is at c here l.child d e)) ∙ l.is;
  }

  pub list-end : (at : Option ℕ) (out : List ℕ) → at ≡ None → Listing f p at out → out ≡ children_at f p
  list-end at out e l = sym (append-nil out) ∙ ap (λ o. out ++ children_from f p o) (sym e) ∙ l.is

-- ---- an element among the children

abbrev pub is_element_at : Trees → ℕ → Bool
is_element_at f c = is_element (kind_at f c)

-- what the loop keeps: whether there is an element among the children is told by those from `at` on
pub record Seeking (f : Trees) (p : ℕ) (at : Option ℕ) : Type 0 where
  pub child : IsChildOrNone f p at
  pub is : has_element_child f p ≡ list_any (is_element_at f) (children_from f p at)

module _ (f : Trees) (p : ℕ) (tidy : IsTidy f) (is : IsNode f p) where
  pub seek-start : (at : Option ℕ) → at ≡ first_child_at f p → IsNodeOrNone f at → Seeking f p at
  seek-start at e node = record { child = child-first f p tidy is at e node; is = ap (list_any (is_element_at f)) (sym (children-first f p tidy is at e)) }

  module _ (at : Option ℕ) (c : ℕ) (here : at ≡ Some c) (s : Seeking f p at) (d : Option ℕ) (e : d ≡ next_sibling_at f c) where
    pub seek-found : is_element_at f c ≡ true → true ≡ has_element_child f p
    seek-found it = sym (s.is ∙ ap (list_any (is_element_at f)) (children-split f p tidy is at c here s.child d e) ∙ grind (arith, it))

    pub seek-on : is_element_at f c ≡ false → IsNodeOrNone f d → Seeking f p d
    seek-on other node = record {
      child = child-next f p tidy is at c here s.child d e node;
      is = s.is ∙ ap (list_any (is_element_at f)) (children-split f p tidy is at c here s.child d e) ∙ grind (arith, other);
    }

  pub seek-end : (at : Option ℕ) → at ≡ None → Seeking f p at → false ≡ has_element_child f p
  seek-end at e s = sym (s.is ∙ ap (λ o. list_any (is_element_at f) (children_from f p o)) e)
