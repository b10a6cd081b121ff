-- Each node's kind fits what is above it.
use Rattle.std.proofs.Common.{◌≡◌, ℕ, true, ◌<◌, Option, Some, None, refl, ap, sym, ◌∙◌, subst, arith}
use Rattle.node_trees.specs.Trees.{Trees, none, tree}
use Rattle.node_trees.specs.Nodes.{Place, AtTop, InShadow, AsChild, fits, misfits, times, IsNode, IsTidy}
use Rattle.node_trees.specs.Spots.{Spot, spot_of, spot_in, spot, kind_at}
use Rattle.tree_laws.proofs.Sums.{tidy-apart, apart-shadow, apart-children, apart-rest, here, in_shadow, in_children, in_rest, stands_where}
use Rattle.tree_laws.proofs.Pieces.{spot-here, spot-shadow, spot-children, spot-rest}
use Rattle.tree_laws.proofs.AtNode.{node_stands, facts_at-is}
use Rattle.tree_laws.proofs.ChildFits.{unless-true, child-no_root}
use Rattle.node_trees.proofs.Weights.{IsApart}

-- the place under this parent or this host
abbrev pub place_of : Option ℕ → Option ℕ → Place
place_of (Some p) h = AsChild
place_of None (Some h) = InShadow
place_of None None = AtTop

place-fits : (p h : Option ℕ) (n : ℕ) (f : Trees) (row : Spot) → IsApart f → 0 < times n f → misfits (place_of p h) f ≡ 0 → spot_in p h n f ≡ Some row
    → fits (place_of row.parent row.host) row.facts.kind ≡ true
place-fits p h n none row apart pos z is = absurd (omega arith)
place-fits p h n (tree m x s k r) row apart pos z is = elim (stands_where n m x s k r apart pos) [
  | here e _ _ _ ↦
      let same : spot_of x p h s k ≡ row = let it = spot-here p h n m x s k r e in cc in
      subst (λ (v : Spot). fits (place_of v.parent v.host) v.facts.kind ≡ true) same (unless-true (fits (place_of p h) x.kind) (omega arith))
  | in_shadow ne a b c ↦ place-fits None (Some m) n s row (apart-shadow m x s k r apart) a (omega arith) (sym (spot-shadow p h n m x s k r ne b c) ∙ is)
  | in_children ne a b c ↦ place-fits (Some m) None n k row (apart-children m x s k r apart) b (omega arith) (sym (spot-children p h n m x s k r ne a c) ∙ is)
  | in_rest ne a b c ↦ place-fits p h n r row (apart-rest m x s k r apart) c (omega arith) (sym (spot-rest p h n m x s k r ne a b) ∙ is)
]

-- a node that may be a child and has no parent has no host
pub free-host : (f : Trees) (n : ℕ) (row : Spot) → IsTidy f → IsNode f n → spot f n ≡ Some row → row.parent ≡ None → fits AsChild (kind_at f n) ≡ true
    → row.host ≡ None
free-host f n row tidy node is free fit =
    let there : fits (place_of None row.host) row.facts.kind ≡ true =
    rw free at (place-fits None None n f row (tidy-apart f tidy) (node_stands f n tidy node) tidy.kinds is) in
    let child : fits AsChild row.facts.kind ≡ true = ap (λ x. fits AsChild x.kind) (sym (facts_at-is f n row is)) ∙ fit in
    let no_root = child-no_root row.facts.kind child in
    elim row.host as (λ v. fits (place_of None v) row.facts.kind ≡ true → v ≡ None) [
      | None ↦ λ h. refl
      | Some h ↦ λ e. absurd (cc)
    ] there
