-- A tree that moves, to a parent or away from it: a removal, and an insertion, which is a removal seen from behind.
use Rattle.std.proofs.Common.{◌≡◌, ◌≢◌, ℕ, Bool, false, [], Option, Some, None, ap, sym, ◌∙◌, subst, arith, inl, inr}
use Rattle.std.specs.Prelude.{filter}
use Rattle.std.specs.List.{find}
use Rattle.std.proofs.lemmas.Bool.{cases_eq, cases_lt}
use Rattle.node_trees.specs.Insertion.{may_insert}
use Rattle.node_trees.specs.Trees.{Trees, tree_of, cut, graft}
use Rattle.node_trees.specs.Nodes.{times, size, IsNode, IsTidy}
use Rattle.node_trees.specs.Orders.{tree_order, tree_order_of}
use Rattle.node_trees.specs.Paths.{path, root_at}
use Rattle.node_trees.specs.Spots.{Spot, facts_at, parent_at, children_at, or_no_spot}
use Rattle.node_trees.proofs.Absent.{spot-absent}
use Rattle.tree_laws.specs.Numbers.{remove_number}
use Rattle.tree_laws.proofs.Above.{parent-above}
use Rattle.tree_laws.proofs.CutReads.{facts_at-cut, parent_at-cut, path-cut-outside}
use Rattle.tree_laws.proofs.MovedSpots.{Moved, removed}
use Rattle.tree_laws.proofs.Next.{order-absent}
use Rattle.tree_laws.proofs.Parents.{parent-other}
use Rattle.tree_laws.proofs.Sizes.{node-still}
use Rattle.tree_laws.proofs.Sums.{tidy-apart}
use Rattle.tree_laws.proofs.AllowedGraft.{allowed-tidy}
use Rattle.form_controls.specs.Owners.{ancestors}
use Rattle.above_reading.proofs.CutRoots.{cut-tree, root-cut-out}
use Rattle.above_reading.proofs.Kept.{kept-cut}
use Rattle.above_reading.proofs.Outside.{ancestors-cut}
use Rattle.above_reading.proofs.PutBack.{graft-node, graft-up, cut-graft}
use Rattle.above_reading.proofs.Tests.{find-removed}

-- g is f where the tree of n came to p or went from there
pub record IsShift (f g : Trees) (n p : ℕ) : Type 0 where
  pub old : IsTidy f
  pub new : IsTidy g
  pub long : size g ≡ size f
  pub facts : (i : ℕ) → facts_at g i ≡ facts_at f i
  pub parents : (i : ℕ) → i ≢ n → parent_at g i ≡ parent_at f i
  pub children : (i : ℕ) → i ≢ p → children_at g i ≡ children_at f i
  -- among the children of p what n does not pass is found as before
  pub found : (q : ℕ → Bool) → q n ≡ false → find q (children_at g p) ≡ find q (children_at f p)
  pub whole : tree_of n g ≡ tree_of n f
  -- of those outside the tree of n
  pub above : (i : ℕ) → times i (tree_of n f) ≡ 0 → ancestors g i ≡ ancestors f i
  pub way : (i : ℕ) → times i (tree_of n f) ≡ 0 → path i g ≡ path i f
  pub root : (i : ℕ) → IsNode f i → times i (tree_of n f) ≡ 0 → root_at g i ≡ root_at f i
  pub kept : (q : ℕ → Bool) (r : ℕ) → times r (tree_of n f) ≡ 0 → filter q (tree_order_of f n) ≡ []
      → filter q (tree_order_of g r) ≡ filter q (tree_order_of f r)

-- seen from behind
module _ (f g : Trees) (n p : ℕ) (s : IsShift f g n p) where
  outside : (i : ℕ) → times i (tree_of n g) ≡ 0 → times i (tree_of n f) ≡ 0
  outside i z = ap (times i) (sym s.whole) ∙ z

  turned : IsShift g f n p
  turned = record {
    old = s.new;
    new = s.old;
    long = sym s.long;
    facts = λ i. sym (s.facts i);
    parents = λ i ne. sym (s.parents i ne);
    children = λ i ne. sym (s.children i ne);
    found = λ q fails. sym (s.found q fails);
    whole = sym s.whole;
    above = λ i z. sym (s.above i (outside i z));
    way = λ i z. sym (s.way i (outside i z));
    root = λ i at z. sym (s.root i (node-still f g s.long i at) (outside i z));
    kept = λ q r z nothing. sym (s.kept q r (outside r z) (ap (λ t. filter q (tree_order t)) (sym s.whole) ∙ nothing));
  }

-- a removal

module _ (f : Trees) (n p : ℕ) (tidy : IsTidy f) (node : IsNode f n) (up : parent_at f n ≡ Some p) where
  moved : Moved f (cut f n) p n None (remove_number n (children_at f p))
  moved = removed f tidy p n (parent-above f n p tidy node up).is_node node (parent-other f tidy n p up) up

  -- no other than p has other children
  children-cut : (i : ℕ) → i ≢ p → children_at (cut f n) i ≡ children_at f i
  children-cut i not_p = elim (cases_lt 0 (times i f)) [
    | inl low ↦ elim (cases_eq i n) [
      | inl e ↦ subst (λ v. children_at (cut f n) v ≡ children_at f v) (sym e) (ap (λ (s : Spot). s.children) moved.moved)
      | inr not_n ↦ ap (λ (s : Spot). s.children) (moved.others i (tidy.only i low) not_n not_p)
    ]
    | inr out ↦ elim (cases_lt 0 (times i (cut f n))) [
      | inl low ↦ absurd (omega (arith, tidy.once i (node-still f (cut f n) moved.long i (moved.tidy.only i low)), out))
      | inr away ↦ ap (λ o. (or_no_spot o).children) (spot-absent None None i (cut f n) (omega arith) ∙ sym (spot-absent None None i f (omega arith)))
    ]
  ]

  pub cut-shift : IsShift f (cut f n) n p
  cut-shift = record {
    old = tidy;
    new = moved.tidy;
    long = moved.long;
    facts = facts_at-cut f n tidy node;
    parents = parent_at-cut f n tidy node;
    children = children-cut;
    found = λ q fails. ap (λ (s : Spot). find q s.children) moved.there ∙ find-removed q n fails (children_at f p);
    whole = cut-tree f n p tidy node up;
    above = λ i z. ancestors-cut f n i (tidy-apart f tidy) z;
    way = path-cut-outside f n tidy node;
    root = λ i at z. root-cut-out f n p tidy node up i at (order-absent i (tree_of n f) z);
    kept = λ q r z nothing. kept-cut q f n r (tidy-apart f tidy) z nothing;
  }

-- an insertion
pub graft-shift : (f : Trees) (p n : ℕ) (b : Option ℕ) → IsTidy f → IsNode f p → IsNode f n → may_insert f p n b ≡ None → parent_at f n ≡ None
    → IsShift f (graft f p n b) n p
graft-shift f p n b tidy is_p is_n may free =
    let back = cut-shift (graft f p n b) n p (allowed-tidy f p n b tidy is_p is_n may) (graft-node f p n b tidy is_p is_n may free n is_n)
    (graft-up f p n b tidy is_p is_n may free) in
    turned (graft f p n b) f n p (subst (λ v. IsShift (graft f p n b) v n p) (cut-graft f p n b tidy is_p is_n may free) back)
