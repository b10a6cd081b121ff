-- The trees below a node, read node by node.
use Rattle.std.proofs.Common.{◌≡◌, ℕ, Bool, true, false, not, ◌||◌, Some, None, refl, ap, sym, ◌∙◌, arith}
use Rattle.std.proofs.lemmas.Bool.Decides.{nat_tests}
use Rattle.node_trees.specs.declared.kind.NodeKind.{NodeKind}
use Rattle.node_trees.specs.declared.kind.NodeKind.TheVariants.{Document, Element, TextNode, ShadowRoot}
use Rattle.node_trees.specs.Facts.{Facts, is_element, is_text}
use Rattle.node_trees.specs.Trees.{Trees, none, tree, roots, tree_of}
use Rattle.node_trees.specs.Spots.{kind_at, children_at}
use Rattle.node_trees.specs.Nodes.{AsChild, fits, is_none, unless, misfits, IsNode, IsTidy}
use Rattle.node_trees.specs.Links.{below, AreRead}
use Rattle.tree_laws.proofs.Sums.{tidy-apart}
use Rattle.tree_laws.proofs.Inside.{Found, found}
use Rattle.tree_laws.proofs.AtNode.{node_stands, facts_at-is, children_at-is}
use Rattle.tree_laws.proofs.ChildFits.{unless-true}
use Rattle.tree_laws.proofs.Fitting.{misfits-tree_of}
use Rattle.tree_laws.proofs.PartsBelow.{IsPartAt, part_here, part_children, part_rest, children_part}

empty : (k : Trees) (b : Bool) → b ≡ true → (is_none k || not b) ≡ true → k ≡ none
empty none b e h = refl
empty (tree m x s k r) b e h = absurd (grind (arith, e))

text : (kind : NodeKind) → is_element kind ≡ false → fits AsChild kind ≡ true → is_text kind ≡ true
text Document e f = absurd cc
text Element e f = absurd cc
text TextNode e f = refl
text ShadowRoot e f = absurd cc

-- a child that is no element has no children
leaf : (m : ℕ) (x : Facts) (s k r : Trees) → misfits AsChild (tree m x s k r) ≡ 0 → is_element x.kind ≡ false → k ≡ none
leaf m x s k r fit other =
    empty k (is_text x.kind) (text x.kind other (unless-true (fits AsChild x.kind) (omega arith)))
    (unless-true (is_none k || not (is_text x.kind)) (omega arith))

read : (f : Trees) (q : ℕ) (g : Trees) → IsPartAt f (Some q) None g → misfits AsChild g ≡ 0 → AreRead f g
read f q none part fit = tt
read f q (tree m x s k r) part fit =
    let here = part_here f (Some q) None m x s k r part in (
      record {
        node = part.nodes m (grind (arith, nat_tests));
        facts = facts_at-is f m _ here;
        numbers = children_at-is f m _ here;
        leaf = leaf m x s k r fit;
      },
      (
        read f m k (part_children f (Some q) None m x s k r part) (omega arith),
        read f q r (part_rest f (Some q) None m x s k r part) (omega arith),
      ),
    )

module _ (f : Trees) (n : ℕ) (tidy : IsTidy f) (node : IsNode f n) where
  it : Found None None n f
  it = found None None n f (tidy-apart f tidy) (node_stands f n tidy node)

  -- of a node's tree nothing stands amiss but, at most, the node itself
  fitting : misfits AsChild (tree n it.facts it.shadow it.children none) ≡ unless (fits AsChild it.facts.kind)
  fitting = ap (misfits AsChild) (sym it.tree_is)
      ∙ misfits-tree_of _ AsChild None None n f _ (tidy-apart f tidy) (node_stands f n tidy node) tidy.kinds it.spot_is

  pub read_below : AreRead f (below (tree_of n f))
  read_below = rw it.tree_is (read f n it.children (children_part f n tidy it) (let e = fitting in omega (arith, e)))

  pub roots_below : children_at f n ≡ roots (below (tree_of n f))
  roots_below = children_at-is f n _ it.spot_is ∙ ap (λ t. roots (below t)) (sym it.tree_is)

  pub none_below : is_text (kind_at f n) ≡ true → below (tree_of n f) ≡ none
  none_below is =
      let kind : is_text it.facts.kind ≡ true = ap (λ (x : Facts). is_text x.kind) (sym (facts_at-is f n _ it.spot_is)) ∙ is in
      rw it.tree_is (empty it.children (is_text it.facts.kind) kind
      (unless-true (is_none it.children || not (is_text it.facts.kind)) (let e = fitting in omega (arith, e))))
