-- What a touch leaves of the trees: facts of the other nodes, and the order of what stays in one tree.
use Rattle.std.proofs.Common.{◌≡◌, ℕ, Bool, true, false, ◌==◌, Some, None, sym, ap, ◌∙◌, subst, arith, inl, inr}
use Rattle.std.specs.Prelude.{filter}
use Rattle.std.proofs.lemmas.Bool.{cases_eq}
use Rattle.std.proofs.lemmas.Bool.Decides.{nat_tests}
use Rattle.node_trees.specs.Facts.{Facts, with_value, without_value}
use Rattle.node_trees.specs.Trees.{Trees, with_facts}
use Rattle.node_trees.specs.Nodes.{IsNode, IsTidy}
use Rattle.node_trees.specs.Orders.{tree_order_of}
use Rattle.node_trees.specs.Paths.{root_at}
use Rattle.node_trees.specs.Spots.{facts_at, or_no_spot, parent_at}
use Rattle.tree_laws.proofs.Above.{parent-above}
use Rattle.tree_laws.proofs.Changed.{spot-with-other}
use Rattle.above_reading.proofs.AttributeOrders.{order-set, order-gone, root-set, root-gone}
use Rattle.above_reading.proofs.PutBack.{graft-up}
use Rattle.above_reading.proofs.Shift.{IsShift, cut-shift, graft-shift}
use Rattle.above_reading.proofs.TogetherCut.{AreTogether, together-cut}
use Rattle.above_reading.proofs.TogetherGraft.{together-graft}
use Rattle.form_owner.specs.declared.touch.Touch.{Touch}
use Rattle.form_owner.specs.declared.touch.Touch.TheVariants.{Inserted, Removed, Attr, Associated}
use Rattle.form_owner.specs.Touches.{IsTouched, IsInserted, IsRemoved, IsChanged}

-- moves

pub inserted-shift : (n : ℕ) (old new : Trees) (t : IsInserted n old new) → IsShift old new n t.parent
inserted-shift n old new t = subst (λ f. IsShift old f n t.parent) (sym t.is) (graft-shift old t.parent n t.before t.tidy t.parent_node t.node t.may t.free)

pub removed-shift : (n p : ℕ) (old new : Trees) → IsRemoved n p old new → IsShift old new n p
removed-shift n p old new t = subst (λ f. IsShift old f n p) (sym t.is) (cut-shift old n p t.tidy t.node t.placed)

-- facts

-- the touch changed an attribute of n
abbrev pub is_changed : Touch → ℕ → Bool
is_changed (Inserted m) n = false
is_changed (Removed m parent) n = false
is_changed (Attr m) n = m == n
is_changed (Associated m on) n = false

facts-with : (n : ℕ) (c : Facts → Facts) (f : Trees) (m : ℕ) → (n == m) ≡ false → facts_at (with_facts n c f) m ≡ facts_at f m
facts-with n c f m other = elim (cases_eq m n) [
  | inl same ↦ absurd (let it : (n == m) ≡ true = grind (arith, nat_tests, same) in cc)
  | inr ne ↦ ap (λ s. (or_no_spot s).facts) (spot-with-other n c None None m f ne)
]

pub facts-changed : (n : ℕ) (old new : Trees) → IsChanged n old new → (m : ℕ) → (n == m) ≡ false → facts_at new m ≡ facts_at old m
facts-changed n old new t m other = elim t.is [
  | inl set ↦ ap (λ f. facts_at f m) set.1 ∙ facts-with n (λ x. record x { attributes = with_value t.name set.0 x.attributes }) old m other
  | inr gone ↦ ap (λ f. facts_at f m) gone ∙ facts-with n (λ x. record x { attributes = without_value t.name x.attributes }) old m other
]

pub facts-stay : (touch : Touch) (old new : Trees) → IsTouched touch old new → (m : ℕ) → is_changed touch m ≡ false → facts_at new m ≡ facts_at old m
facts-stay (Inserted n) old new t m other = (inserted-shift n old new t).facts m
facts-stay (Removed n parent) old new t m other = (removed-shift n parent old new t).facts m
facts-stay (Attr n) old new t m other = facts-changed n old new t m other
facts-stay (Associated n on) old new t m other = ap (λ f. facts_at f m) t.is

-- the trees were tidy
pub tidy-before : (touch : Touch) (old new : Trees) → IsTouched touch old new → IsTidy new → IsTidy old
tidy-before (Inserted n) old new t tidy = t.tidy
tidy-before (Removed n parent) old new t tidy = t.tidy
tidy-before (Attr n) old new t tidy = t.tidy
tidy-before (Associated n on) old new t tidy = subst IsTidy t.is tidy

-- orders

abbrev KeepsOrder : Trees → Trees → ℕ → (ℕ → Bool) → Type 0
KeepsOrder old new g q = filter q (tree_order_of new (root_at new g)) ≡ filter q (tree_order_of old (root_at old g))

changed-order : (n : ℕ) (old new : Trees) → IsChanged n old new → (g : ℕ) (q : ℕ → Bool) → KeepsOrder old new g q
changed-order n old new t g q = elim t.is [
  | inl set ↦ subst (λ f. KeepsOrder old f g q) (sym set.1)
      (ap (filter q) (order-set old n t.name set.0 _ ∙ ap (tree_order_of old) (root-set old n t.name set.0 g)))
  | inr gone ↦ subst (λ f. KeepsOrder old f g q) (sym gone) (ap (filter q) (order-gone old n t.name _ ∙ ap (tree_order_of old) (root-gone old n t.name g)))
]

pub order-stays : (touch : Touch) (old new : Trees) → IsTouched touch old new → (g : ℕ) → IsNode old g → (q : ℕ → Bool) → AreTogether q old new g
    → KeepsOrder old new g q
order-stays (Inserted n) old new t g node q together =
    subst (λ f. KeepsOrder old f g q) (sym t.is)
    (together-graft old t.parent n t.before t.tidy t.parent_node t.node t.may t.free g node q (subst (λ f. AreTogether q old f g) t.is together))
order-stays (Removed n parent) old new t g node q together =
    subst (λ f. KeepsOrder old f g q) (sym t.is)
    (together-cut old n parent t.tidy t.node t.placed g node q (subst (λ f. AreTogether q old f g) t.is together))
order-stays (Attr n) old new t g node q together = changed-order n old new t g q
order-stays (Associated n on) old new t g node q together = ap (λ f. filter q (tree_order_of f (root_at f g))) t.is

-- parents

-- what was inserted has a parent
pub no-root : (n : ℕ) (old new : Trees) → IsInserted n old new → parent_at new n ≡ None → ⊥
no-root n old new t none = absurd
    (let up : parent_at new n ≡ Some t.parent = ap (λ f. parent_at f n) t.is ∙ graft-up old t.parent n t.before t.tidy t.parent_node t.node t.may t.free in cc)

-- what a node was taken from is still a node
pub parent-still : (n p : ℕ) (old new : Trees) → IsRemoved n p old new → IsNode new p
parent-still n p old new t =
    let above = (parent-above old n p t.tidy t.node t.placed).is_node in
    let low = above.low in
    let high = above.high in
    record { low = low; high = omega (arith, high, t.size_is) }
