-- No node has a part that its kind lacks, after each change.
use Rattle.std.proofs.Common.{◌≡◌, ℕ, Bool, true, false, ◌+◌, ◌≤◌, if◌then◌else◌, List, Option, Some, None, refl, ap, sym, ◌∙◌, arith, length}
use Rattle.std.proofs.lemmas.Bool.Decides.{nat_tests}
use Rattle.std.proofs.lemmas.List.{nil_from_length}
use Rattle.std.specs.Option.{option_to_list}
use Rattle.node_trees.specs.declared.kind.NodeKind.TheVariants.{Element}
use Rattle.node_trees.specs.Facts.{Facts, is_element, is_text}
use Rattle.node_trees.specs.Trees.{Trees, none, tree, with_facts}
use Rattle.node_trees.specs.Nodes.{weight, surplus_at, surplus, HasOwnParts, IsNode, IsTidy}
use Rattle.node_trees.specs.Spots.{facts_at, kind_at}
use Rattle.tree_laws.proofs.Sums.{tidy-apart}
use Rattle.tree_laws.proofs.AtNode.{node_stands, node_spot, facts_at-is}
use Rattle.tree_laws.proofs.Fitting.{only_at, only-there}

-- ---- sums over the facts alone

module _ (n : ℕ) (w : Facts → ℕ) where
  -- what is counted at one node is a part of the whole
  only-le : (f : Trees) → weight (only_at n w) f ≤ weight (λ m x. w x) f
  only-le none = omega arith
  only-le (tree m x s k r) = grind (arith, nat_tests, only-le s, only-le k, only-le r)

  -- a change of one node's facts adds no more than what is counted there afterwards
  changed-le : (c : Facts → Facts) (f : Trees) → weight (λ m x. w x) (with_facts n c f) ≤ weight (λ m x. w x) f + weight (only_at n (λ x. w (c x))) f
  changed-le c none = omega arith
  changed-le c (tree m x s k r) = grind (arith, nat_tests, changed-le c s, changed-le c k, changed-le c r)

-- ---- one node

only-facts : (f : Trees) (n : ℕ) (w : Facts → ℕ) → IsTidy f → IsNode f n → weight (only_at n w) f ≡ w (facts_at f n)
only-facts f n w tidy node =
    let st = node_spot f n tidy node in
    only-there n w None None f st.row (tidy-apart f tidy) (node_stands f n tidy node) st.is ∙ ap w (sym (facts_at-is f n st.row st.is))

pub surplus-at : (f : Trees) (n : ℕ) → IsTidy f → IsNode f n → surplus_at (facts_at f n) ≡ 0
surplus-at f n tidy node =
    let here = only-facts f n surplus_at tidy node in
    omega (arith, here, only-le n surplus_at f, tidy.parts)

no-value : {A : Type 0} (o : Option A) → length (option_to_list o) ≡ 0 → o ≡ None
no-value None h = refl
no-value (Some a) h = absurd (omega arith)

-- what a test does not leave out of a sum that is nothing is nothing
not-left-out : (b : Bool) (p q : ℕ) → (if b then 0 else p) + q ≡ 0 → b ≡ false → p ≡ 0
not-left-out true p q z h = absurd cc
not-left-out false p q z h = omega arith

element-parts : (x : Facts) → surplus_at x ≡ 0 → is_element x.kind ≡ false → length x.local + (length (option_to_list x.is_value) + length x.attributes) ≡ 0
element-parts x z h = not-left-out (is_element x.kind) (length x.local + (length (option_to_list x.is_value) + length x.attributes))
    (if is_text x.kind then 0 else length x.chars) z h

text-parts : (x : Facts) → surplus_at x ≡ 0 → is_text x.kind ≡ false → length x.chars ≡ 0
text-parts x z h = not-left-out (is_text x.kind) (length x.chars) 0 (omega (arith, z)) h

own-parts : (x : Facts) → surplus_at x ≡ 0 → HasOwnParts x
own-parts x z = record {
  local = λ h. nil_from_length x.local (omega (arith, element-parts x z h));
  is_value = λ h. no-value x.is_value (omega (arith, element-parts x z h));
  attributes = λ h. nil_from_length x.attributes (omega (arith, element-parts x z h));
  chars = λ h. nil_from_length x.chars (text-parts x z h);
}

pub has-own-parts : (f : Trees) (n : ℕ) → IsTidy f → IsNode f n → HasOwnParts (facts_at f n)
has-own-parts f n tidy node = own-parts (facts_at f n) (surplus-at f n tidy node)

-- ---- a change of one node's facts

-- a change that leaves the node's kind, and gives it no part that the kind lacks
pub record KeepsKind (f : Trees) (n : ℕ) (change : Facts → Facts) : Type 0 where
  pub kind : (x : Facts) → (change x).kind ≡ x.kind
  pub own : surplus_at (change (facts_at f n)) ≡ 0

pub surplus-with : (f : Trees) (n : ℕ) (c : Facts → Facts) → IsTidy f → IsNode f n → KeepsKind f n c → surplus (with_facts n c f) ≡ 0
surplus-with f n c tidy node keeps =
    let here = only-facts f n (λ x. surplus_at (c x)) tidy node in
    omega (arith, changed-le n surplus_at c f, here, keeps.own, tidy.parts)

pub keeps-document : (f : Trees) (n d : ℕ) → IsTidy f → IsNode f n → KeepsKind f n (λ x. record x { document = d })
keeps-document f n d tidy node = record { kind = λ x. refl; own = surplus-at f n tidy node }

-- attributes are an element's
set-attributes : (x : Facts) (attributes : List (List ℕ × List ℕ)) → is_element x.kind ≡ true → surplus_at x ≡ 0
    → surplus_at (record x { attributes = attributes }) ≡ 0
set-attributes x attributes h z = rw h (rw h at z)

pub keeps-attributes : (f : Trees) (n : ℕ) (change : List (List ℕ × List ℕ) → List (List ℕ × List ℕ)) → IsTidy f → IsNode f n → kind_at f n ≡ Element
    → KeepsKind f n (λ x. record x { attributes = change x.attributes })
keeps-attributes f n change tidy node element = record {
  kind = λ x. refl;
  own = set-attributes (facts_at f n) (change (facts_at f n).attributes) (ap is_element element) (surplus-at f n tidy node);
}
