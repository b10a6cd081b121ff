-- The reads of a forest after a node was taken out of the children that it stood in.
use Rattle.std.proofs.Common.{◌≡◌, ◌≢◌, ℕ, ◌<◌, List, Option, Some, None, refl, ap, sym, ◌∙◌, subst, arith, inl, inr}
use Rattle.std.proofs.lemmas.Bool.Decides.{nat_tests}
use Rattle.std.proofs.lemmas.Bool.{cases_lt, cases_eq}
use Rattle.node_trees.specs.Facts.{Facts}
use Rattle.node_trees.specs.Trees.{Trees, none, tree, tree_of, without, cut}
use Rattle.node_trees.specs.Nodes.{times, IsNode, IsTidy}
use Rattle.node_trees.specs.Paths.{path}
use Rattle.node_trees.specs.Spots.{Spot, spot_in, spot, spot_at, or_no_spot, facts_at, kind_at, parent_at, host_at, children_at}
use Rattle.tree_laws.proofs.Sums.{tidy-apart, times-without}
use Rattle.tree_laws.proofs.Inside.{Found, found}
use Rattle.tree_laws.proofs.Lists.{lacking, spot_lacking}
use Rattle.tree_laws.proofs.CutSpots.{spot-place-in, spot-place-out, path-place-out, spot-without, path-without}
use Rattle.tree_laws.proofs.AtNode.{node_stands}

-- a spot among the roots of the forest
abbrev pub spot_at_top : Option Spot → Option Spot
spot_at_top None = None
spot_at_top (Some s) = Some (record s { parent = None; host = None })

-- below its root one tree's spots are the same wherever it stands
pub below-same : (p h p' h' : Option ℕ) (i n : ℕ) (x : Facts) (s k : Trees) → i ≢ n → spot_in p h i (tree n x s k none) ≡ spot_in p' h' i (tree n x s k none)
below-same p h p' h' i n x s k ne = grind (arith, nat_tests)

root-top : (p h : Option ℕ) (n : ℕ) (x : Facts) (s k : Trees) → spot_in None None n (tree n x s k none) ≡ spot_at_top (spot_in p h n (tree n x s k none))
root-top p h n x s k = grind (arith, nat_tests)

module _ (f : Trees) (n : ℕ) (tidy : IsTidy f) (node : IsNode f n) where
  it : Found None None n f
  it = found None None n f (tidy-apart f tidy) (node_stands f n tidy node)

  -- what stands in the tree of n stands nowhere else
  pub not-left : (i : ℕ) → 0 < times i (tree_of n f) → times i (without n f) ≡ 0
  not-left i low = omega (arith, times-without i n f (tidy-apart f tidy n), tidy-apart f tidy i)

  pub in-tree : 0 < times n (tree_of n f)
  in-tree = let e = it.tree_is in rw e (grind (arith, nat_tests))

  -- ---- what stands at a node

  pub spot-cut-outside : (i : ℕ) → times i (tree_of n f) ≡ 0 → spot (cut f n) i ≡ spot_lacking n (spot f i)
  spot-cut-outside i z = spot-place-out None None i n (tree_of n f) (without n f) z ∙ spot-without None None i n f (tidy-apart f tidy) z

  pub spot-cut-below : (i : ℕ) → i ≢ n → 0 < times i (tree_of n f) → spot (cut f n) i ≡ spot f i
  spot-cut-below i ne low =
      let same : spot_in None None i (tree_of n f) ≡ spot_in it.parent it.host i (tree_of n f) =
      subst (λ t. spot_in None None i t ≡ spot_in it.parent it.host i t) (sym it.tree_is)
      (below-same None None it.parent it.host i n it.facts it.shadow it.children ne) in
      spot-place-in None None i n (tree_of n f) (without n f) (not-left i low) ∙ same ∙ sym (it.inside i low)

  pub spot-cut-here : spot (cut f n) n ≡ spot_at_top (spot f n)
  spot-cut-here =
      let top : spot_in None None n (tree_of n f) ≡ spot_at_top (spot_in it.parent it.host n (tree_of n f)) =
      subst (λ t. spot_in None None n t ≡ spot_at_top (spot_in it.parent it.host n t)) (sym it.tree_is)
      (root-top it.parent it.host n it.facts it.shadow it.children) in
      spot-place-in None None n n (tree_of n f) (without n f) (not-left n in-tree) ∙ top ∙ ap spot_at_top (sym (it.inside n in-tree))

  -- ---- paths

  pub path-cut-outside : (i : ℕ) → times i (tree_of n f) ≡ 0 → path i (cut f n) ≡ path i f
  path-cut-outside i z = path-place-out i n (tree_of n f) (without n f) z ∙ path-without i n f (tidy-apart f tidy) z

pub lacking-read : (A : Type 0) (g : Spot → A) (n : ℕ) → ((s : Spot) (ns ms : List ℕ) → g (record s { shadow = ns; children = ms }) ≡ g s) → (o : Option Spot)
    → g (or_no_spot (spot_lacking n o)) ≡ g (or_no_spot o)
lacking-read A g n keeps None = refl
lacking-read A g n keeps (Some s) = keeps s (lacking n s.shadow) (lacking n s.children)

top-read : (A : Type 0) (g : Spot → A) → ((s : Spot) (p h : Option ℕ) → g (record s { parent = p; host = h }) ≡ g s) → (o : Option Spot)
    → g (or_no_spot (spot_at_top o)) ≡ g (or_no_spot o)
top-read A g keeps None = refl
top-read A g keeps (Some s) = keeps s None None

module _ (f : Trees) (n : ℕ) (tidy : IsTidy f) (node : IsNode f n) where
  -- a read that takes no heed of the shadow tree and the children: the same of each node but n
  read-other : (A : Type 0) (g : Spot → A) → ((s : Spot) (ns ms : List ℕ) → g (record s { shadow = ns; children = ms }) ≡ g s) → (i : ℕ) → i ≢ n
      → g (spot_at (cut f n) i) ≡ g (spot_at f i)
  read-other A g keeps i ne = elim (cases_lt 0 (times i (tree_of n f))) [
    | inl low ↦ ap (λ o. g (or_no_spot o)) (spot-cut-below f n tidy node i ne low)
    | inr out ↦ ap (λ o. g (or_no_spot o)) (spot-cut-outside f n tidy node i (omega arith)) ∙ lacking-read A g n keeps (spot f i)
  ]

  pub parent_at-cut : (i : ℕ) → i ≢ n → parent_at (cut f n) i ≡ parent_at f i
  parent_at-cut = read-other (Option ℕ) (λ s. s.parent) (λ s ns ms. refl)

  pub host_at-cut : (i : ℕ) → i ≢ n → host_at (cut f n) i ≡ host_at f i
  host_at-cut = read-other (Option ℕ) (λ s. s.host) (λ s ns ms. refl)

  pub parent_at-cut-here : parent_at (cut f n) n ≡ None
  parent_at-cut-here = ap (λ o. (or_no_spot o).parent)
      (spot-cut-here f n tidy node ∙ ap spot_at_top (found None None n f (tidy-apart f tidy) (node_stands f n tidy node)).spot_is)

  -- the facts of each stay
  pub facts_at-cut : (i : ℕ) → facts_at (cut f n) i ≡ facts_at f i
  facts_at-cut i = elim (cases_eq i n) [
    | inl e ↦ subst (λ v. facts_at (cut f n) v ≡ facts_at f v) (sym e)
        (ap (λ o. (or_no_spot o).facts) (spot-cut-here f n tidy node) ∙ top-read Facts (λ s. s.facts) (λ s p h. refl) (spot f n))
    | inr ne ↦ read-other Facts (λ s. s.facts) (λ s ns ms. refl) i ne
  ]

  pub kind_at-cut : (i : ℕ) → kind_at (cut f n) i ≡ kind_at f i
  kind_at-cut i = ap (λ (x : Facts). x.kind) (facts_at-cut i)

  -- the children of a node that is not in the tree of n lose n
  pub children_at-cut-outside : (i : ℕ) → times i (tree_of n f) ≡ 0 → children_at (cut f n) i ≡ lacking n (children_at f i)
  children_at-cut-outside i z = ap (λ o. (or_no_spot o).children) (spot-cut-outside f n tidy node i z) ∙ lacking-children (spot f i)
    where
      lacking-children : (o : Option Spot) → (or_no_spot (spot_lacking n o)).children ≡ lacking n (or_no_spot o).children
      lacking-children None = refl
      lacking-children (Some s) = refl
