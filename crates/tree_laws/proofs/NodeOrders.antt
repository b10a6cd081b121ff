-- The shadow-including order of a tree, a node at a time.
use Rattle.std.proofs.Common.{◌≡◌, ℕ, ◌<◌, List, [], ◌∷◌, ◌++◌, Some, None, refl, ap, sym, ◌∙◌, subst, arith, append_assoc, append-nil}
use Rattle.std.proofs.lemmas.Bool.Decides.{nat_tests}
use Rattle.node_trees.specs.Facts.{Facts}
use Rattle.node_trees.specs.Trees.{Trees, none, tree, roots, tree_of}
use Rattle.node_trees.specs.Spots.{Spot, spot_of, spot}
use Rattle.node_trees.specs.Orders.{order}
use Rattle.node_trees.specs.Nodes.{times, IsNode, IsTidy}
use Rattle.tree_laws.specs.Walks.{AreNodes, orders}
use Rattle.tree_laws.proofs.Sums.{tidy-apart, apart-shadow, apart-children, apart-rest, times-without}
use Rattle.tree_laws.proofs.Pieces.{tree_of-shadow, tree_of-children, tree_of-rest}
use Rattle.tree_laws.proofs.Inside.{Found, found}
use Rattle.tree_laws.proofs.AtNode.{node_stands}
use Rattle.tree_laws.proofs.OrderSteps.{IsPart, tree_of-inside}
use Rattle.node_trees.proofs.Weights.{IsApart}

pub orders-append : (f : Trees) (ms ns : List ℕ) → orders f (ms ++ ns) ≡ orders f ms ++ orders f ns
orders-append f [] ns = refl
orders-append f (m ∷ ms) ns = ap (λ xs. order (tree_of m f) ++ xs) (orders-append f ms ns)
    ∙ sym (append_assoc (order (tree_of m f)) (orders f ms) (orders f ns))

module _ (f : Trees) (m : ℕ) (x : Facts) (s k r : Trees) (apart : IsApart (tree m x s k r)) (part : IsPart f (tree m x s k r)) where
  pub part_shadow : IsPart f s
  part_shadow n pos =
      let one = apart n in
      part n (omega arith) ∙ tree_of-shadow n m x s k r (grind (arith, nat_tests)) (grind (arith, nat_tests)) (grind (arith, nat_tests))

  pub part_children : IsPart f k
  part_children n pos =
      let one = apart n in
      part n (omega arith) ∙ tree_of-children n m x s k r (grind (arith, nat_tests)) (grind (arith, nat_tests)) (grind (arith, nat_tests))

  pub part_rest : IsPart f r
  part_rest n pos =
      let one = apart n in
      part n (omega arith) ∙ tree_of-rest n m x s k r (grind (arith, nat_tests)) (grind (arith, nat_tests)) (grind (arith, nat_tests))

-- the order of trees is that of the trees of their roots
pub order_part : (f g : Trees) → IsApart g → IsPart f g → order g ≡ orders f (roots g)
order_part f none apart part = refl
order_part f (tree m x s k r) apart part =
    let one = apart m in
    let here : tree_of m f ≡ tree m x s k none = part m (grind (arith, nat_tests)) ∙ grind (arith, nat_tests) in
    let after = order_part f r (apart-rest m x s k r apart) (part_rest f m x s k r apart part) in
    let first : order (tree_of m f) ≡ m ∷ (order s ++ (order k ++ [])) = ap order here in
    rw (first, sym after, append-nil (order k)) (ap (λ xs. m ∷ xs) (sym (append_assoc (order s) (order k) (order r))))

-- where n stands, its tree has its parts apart, and they are parts of the forest
record HasParts (f : Trees) (n : ℕ) (it : Found None None n f) : Type 0 where
  whole : IsApart (tree n it.facts it.shadow it.children none)
  part : IsPart f (tree n it.facts it.shadow it.children none)
  inside : (i : ℕ) → 0 < times i (tree n it.facts it.shadow it.children none) → 0 < times i f

below : (f : Trees) (n : ℕ) (it : Found None None n f) → IsTidy f → IsNode f n → HasParts f n it
below f n it tidy at =
    let apart_f = tidy-apart f tidy in
    record {
      whole = λ i. omega (arith, ap (times i) it.tree_is, times-without i n f (apart_f n), apart_f i);
      part = subst (IsPart f) it.tree_is (λ i pos. tree_of-inside n i f apart_f (node_stands f n tidy at) pos);
      inside = λ i pos. omega (arith, pos, ap (times i) it.tree_is, times-without i n f (apart_f n));
    }

same_spot : (f : Trees) (n : ℕ) (sp : Spot) (it : Found None None n f) → spot f n ≡ Some sp → sp ≡ spot_of it.facts it.parent it.host it.shadow it.children
same_spot f n sp it is = cc (is, it.spot_is)

-- a node, and then the orders of its shadow tree and its children
pub order_step : (f : Trees) (n : ℕ) (sp : Spot) → IsTidy f → IsNode f n → spot f n ≡ Some sp → order (tree_of n f) ≡ n ∷ orders f (sp.shadow ++ sp.children)
order_step f n sp a at is =
    let it = found None None n f (tidy-apart f a) (node_stands f n a at) in
    let b = below f n it a at in
    let in_s = order_part f it.shadow (apart-shadow n it.facts it.shadow it.children none b.whole)
    (part_shadow f n it.facts it.shadow it.children none b.whole b.part) in
    let in_k = order_part f it.children (apart-children n it.facts it.shadow it.children none b.whole)
    (part_children f n it.facts it.shadow it.children none b.whole b.part) in
    let same = same_spot f n sp it is in
    rw (same, it.tree_is, orders-append f (roots it.shadow) (roots it.children), sym in_s, sym in_k, append-nil (order it.children)) refl

pub nodes-append : (f : Trees) (ms ns : List ℕ) → AreNodes f ms → AreNodes f ns → AreNodes f (ms ++ ns)
nodes-append f [] ns a b = b
nodes-append f (m ∷ ms) ns a b = (a.0, nodes-append f ms ns a.1 b)

roots_are : (f g : Trees) → IsTidy f → ((i : ℕ) → 0 < times i g → 0 < times i f) → AreNodes f (roots g)
roots_are f none a within = tt
roots_are f (tree m x s k r) a within = (a.only m (within m (grind (arith, nat_tests))), roots_are f r a (λ i pos. within i (omega arith)))

-- the shadow root and the children of a node are nodes
pub links_are : (f : Trees) (n : ℕ) (sp : Spot) → IsTidy f → IsNode f n → spot f n ≡ Some sp → AreNodes f (sp.shadow ++ sp.children)
links_are f n sp a at is =
    let it = found None None n f (tidy-apart f a) (node_stands f n a at) in
    let b = below f n it a at in
    let same = same_spot f n sp it is in
    rw same (nodes-append f (roots it.shadow) (roots it.children) (roots_are f it.shadow a (λ i pos. b.inside i (omega arith)))
    (roots_are f it.children a (λ i pos. b.inside i (omega arith))))
