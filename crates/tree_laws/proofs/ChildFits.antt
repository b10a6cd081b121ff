-- A child is an element or a text.
use Rattle.std.proofs.Common.{◌≡◌, ℕ, Bool, true, false, ◌<◌, Option, Some, None, refl, ap, sym, ◌∙◌, subst, arith}
use Rattle.node_trees.specs.declared.kind.NodeKind.{NodeKind}
use Rattle.node_trees.specs.declared.kind.NodeKind.TheVariants.{Document, Element, TextNode, ShadowRoot}
use Rattle.node_trees.specs.Facts.{Facts, is_shadow_root}
use Rattle.node_trees.specs.Trees.{Trees, none, tree}
use Rattle.node_trees.specs.Nodes.{times, Place, AtTop, InShadow, AsChild, fits, unless, misfits, IsNode, IsTidy}
use Rattle.node_trees.specs.Spots.{Spot, spot_of, spot_in, kind_at, parent_at}
use Rattle.tree_laws.proofs.Sums.{tidy-apart, apart-shadow, apart-children, apart-rest, here, in_shadow, in_children, in_rest, stands_where}
use Rattle.tree_laws.proofs.Pieces.{spot-here, spot-shadow, spot-children, spot-rest}
use Rattle.tree_laws.proofs.AtNode.{node_stands, node_spot, parent_at-is, facts_at-is}
use Rattle.node_trees.proofs.Weights.{IsApart}

-- whether a node is a root of the list, a shadow tree's root or a child
pub data Stance (p h : Option ℕ) (at : Place) (row : Spot) : Type 0 where
  at_root : row.parent ≡ p → row.host ≡ h → fits at row.facts.kind ≡ true → Stance p h at row
  hosted : row.parent ≡ None → fits InShadow row.facts.kind ≡ true → Stance p h at row
  child : fits AsChild row.facts.kind ≡ true → Stance p h at row

pub unless-true : (b : Bool) → unless b ≡ 0 → b ≡ true
unless-true true h = refl
unless-true false h = absurd (omega arith)

pub stance : (p h : Option ℕ) (at : Place) (n : ℕ) (f : Trees) (row : Spot) → IsApart f → 0 < times n f → misfits at f ≡ 0 → spot_in p h n f ≡ Some row
    → Stance p h at row
stance p h at n none row apart pos z is = absurd (omega arith)
stance p h at n (tree m x s k r) row apart pos z is = elim (stands_where n m x s k r apart pos) [
  | here e _ _ _ ↦
      let same : spot_of x p h s k ≡ row = let it = spot-here p h n m x s k r e in cc in
      subst (Stance p h at) same (at_root refl refl (unless-true (fits at x.kind) (omega arith)))
  | in_shadow ne a b c ↦ elim (stance None (Some m) InShadow n s row (apart-shadow m x s k r apart) a (omega arith)
      (sym (spot-shadow p h n m x s k r ne b c) ∙ is)) [
        | at_root e o fit ↦ hosted e fit
        | hosted e fit ↦ hosted e fit
        | child fit ↦ child fit
      ]
  | in_children ne a b c ↦ elim (stance (Some m) None AsChild n k row (apart-children m x s k r apart) b (omega arith)
      (sym (spot-children p h n m x s k r ne a c) ∙ is)) [
        | at_root e o fit ↦ child fit
        | hosted e fit ↦ hosted e fit
        | child fit ↦ child fit
      ]
  | in_rest ne a b c ↦ stance p h at n r row (apart-rest m x s k r apart) c (omega arith) (sym (spot-rest p h n m x s k r ne a b) ∙ is)
]

pub child-fits : (f : Trees) (n q : ℕ) → IsTidy f → IsNode f n → parent_at f n ≡ Some q → fits AsChild (kind_at f n) ≡ true
child-fits f n q tidy node up =
    let st = node_spot f n tidy node in
    let at = parent_at-is f n st.row st.is in
    let kind = ap (λ (x : Facts). fits AsChild x.kind) (facts_at-is f n st.row st.is) in
    elim (stance None None AtTop n f st.row (tidy-apart f tidy) (node_stands f n tidy node) tidy.kinds st.is) [
      | at_root e o fit ↦ absurd cc
      | hosted e fit ↦ absurd cc
      | child fit ↦ kind ∙ fit
    ]

-- and no shadow root
pub child-no_root : (k : NodeKind) → fits AsChild k ≡ true → is_shadow_root k ≡ false
child-no_root Document h = refl
child-no_root Element h = refl
child-no_root TextNode h = refl
child-no_root ShadowRoot h = absurd cc
