-- What a node of the arena says of the forest.
use Rattle.std.proofs.Common.{◌≡◌, ℕ, true, ◌-◌, ◌<◌, List, ◌++◌, [], ◌∷◌, Option, Some, None, refl, ap, sym, ◌∙◌, subst, arith, length, get_or}
use Rattle.std.specs.Option.{option_to_list, option_or}
use Rattle.std.proofs.lemmas.Bool.Decides.{nat_tests}
use Rattle.std.proofs.lemmas.List.{length-map}
use Rattle.node_trees.specs.Trees.{Trees}
use Rattle.node_trees.specs.Nodes.{IsNode, IsNodeOrNone, IsTidy}
use Rattle.node_trees.specs.Paths.{is_among}
use Rattle.node_trees.specs.Spots.{Spot, spot, spot_at, parent_at, host_at, shadow_at, children_at, first_child_at, next_sibling_at, first_of, after}
use Rattle.tree_laws.specs.Beside.{before}
use Rattle.tree_laws.specs.Walks.{AreNodes, IsUp, above}
use Rattle.tree_laws.proofs.Above.{nothing, a_parent, a_host, row_above}
use Rattle.tree_laws.proofs.AtNode.{node_spot, spot_at-is}
use Rattle.tree_laws.proofs.Beside.{before-among}
use Rattle.tree_laws.proofs.Children.{child-node, after-among}
use Rattle.tree_laws.proofs.NodeOrders.{links_are}
use Rattle.tree_laws.proofs.Siblings.{first-among}
use Rattle.node_arena.specs.Links.{Link, link_at, link_in, children_of, IsLinked}
use Rattle.node_arena.specs.NodeLinks.{link_from, links, IsPlace, IsPlaceOrNone}
use Rattle.node_arena.specs.declared.node.Node.{Node}
use Rattle.node_arena.proofs.NodeWrites.{link_there}

-- where a node is kept
module _ (nodes : List Node) (f : Trees) (is : IsLinked (links nodes) f) where
  pub as_many : length nodes ≡ length (links nodes)
  as_many = sym (length-map nodes link_from)

  pub in_range : (n : ℕ) → IsNode f n → n - 1 < length nodes
  in_range n at = omega (arith, is.counted, as_many, at.low, at.high)

  pub in_place : (n : ℕ) → IsNode f n → IsPlace (length nodes) n
  in_place n at = (at.low, omega (arith, is.counted, as_many, at.high))

  pub in_place_or_none : (o : Option ℕ) → IsNodeOrNone f o → IsPlaceOrNone (length nodes) o
  in_place_or_none None at = tt
  in_place_or_none (Some n) at = in_place n at

each-node : (f : Trees) (o : Option ℕ) → ((n : ℕ) → o ≡ Some n → IsNode f n) → IsNodeOrNone f o
each-node f None each = tt
each-node f (Some n) each = each n refl

first-node : (f : Trees) (ms ns : List ℕ) → AreNodes f (ms ++ ns) → IsNodeOrNone f (first_of ms)
first-node f [] ns are = tt
first-node f (m ∷ ms) ns are = are.0

-- a list of at most one
option-first : (o : Option ℕ) (ns : List ℕ) → option_to_list o ≡ ns → o ≡ first_of ns
option-first None ns e = ap first_of e
option-first (Some n) ns e = ap first_of e

lone-after : (o : Option ℕ) (ns : List ℕ) (m : ℕ) → option_to_list o ≡ ns → after m ns ≡ None
lone-after None ns m e = ap (after m) (sym e)
lone-after (Some n) ns m e = ap (after m) (sym e) ∙ grind (arith, nat_tests)

next-same : (f : Trees) (n : ℕ) (o : Option ℕ) → parent_at f n ≡ o → after n (children_of f o) ≡ next_sibling_at f n
next-same f n None e = rw e refl
next-same f n (Some p) e = rw e refl

pub record Read (f : Trees) (n : ℕ) (node : Node) : Type 0 where
  pub link : link_from node ≡ link_in f n
  pub shadow_is : node.shadow ≡ shadow_at f n
  pub next_is : node.next ≡ next_sibling_at f n
  pub lone : (m : ℕ) → after m (spot_at f n).shadow ≡ None
  pub up : IsUp f n (option_or node.parent node.host)
  pub parent : IsNodeOrNone f node.parent
  pub host : IsNodeOrNone f node.host
  pub shadow : IsNodeOrNone f node.shadow
  pub first : IsNodeOrNone f node.first
  pub last : IsNodeOrNone f node.last
  pub previous : IsNodeOrNone f node.previous
  pub next : IsNodeOrNone f node.next

module _ (f : Trees) (tidy : IsTidy f) (n : ℕ) (at : IsNode f n) where
  up_is : (it : Spot) → spot f n ≡ Some it → IsUp f n (above it) × (IsNodeOrNone f it.parent × IsNodeOrNone f it.host)
  up_is it is = elim (row_above f n it tidy at is) [
    | nothing e o path ↦ (
      subst (IsUp f n) (sym (ap (λ v. option_or v it.host) e ∙ o)) path,
      (subst (IsNodeOrNone f) (sym e) tt, subst (IsNodeOrNone f) (sym o) tt),
    )
    | a_parent q e o up ↦ (
      subst (IsUp f n) (sym (ap (λ v. option_or v it.host) e)) (up.is_node, up.path_is),
      (subst (IsNodeOrNone f) (sym e) up.is_node, subst (IsNodeOrNone f) (sym o) tt),
    )
    | a_host q e o up ↦ (
      subst (IsUp f n) (sym (ap (λ v. option_or v it.host) e ∙ o)) (up.is_node, up.path_is),
      (subst (IsNodeOrNone f) (sym e) tt, subst (IsNodeOrNone f) (sym o) up.is_node),
    )
  ]

  sibling-node : (o : Option ℕ) → IsNodeOrNone f o → (c : ℕ) → is_among c (children_of f o) ≡ true → IsNode f c
  sibling-node None at c among = absurd cc
  sibling-node (Some p) at c among = child-node f p tidy at c among

  module _ (node : Node) (is : link_from node ≡ link_in f n) where
    read_link : Read f n node
    read_link =
        let st = node_spot f n tidy at in
        let same : spot_at f n ≡ st.row = spot_at-is f n st.row st.is in
        let around = up_is st.row st.is in
        let parent : IsNodeOrNone f (parent_at f n) = subst (λ (s : Spot). IsNodeOrNone f s.parent) (sym same) around.1.0 in
        let host : IsNodeOrNone f (host_at f n) = subst (λ (s : Spot). IsNodeOrNone f s.host) (sym same) around.1.1 in
        let shadow_is : node.shadow ≡ shadow_at f n = option-first node.shadow _ (ap (λ (l : Link). l.shadow) is) in
        let shadow : IsNodeOrNone f (shadow_at f n) =
        subst (λ (s : Spot). IsNodeOrNone f (first_of s.shadow)) (sym same)
        (first-node f st.row.shadow st.row.children (links_are f n st.row tidy at st.is)) in
        let first : IsNodeOrNone f (first_child_at f n) =
        each-node f (first_child_at f n) (λ c e. child-node f n tidy at c (first-among c (children_at f n) e)) in
        let last : IsNodeOrNone f (before None (children_at f n)) =
        each-node f _ (λ c e. child-node f n tidy at c (before-among None None c (children_at f n) refl e)) in
        let previous : IsNodeOrNone f (before (Some n) (children_of f (parent_at f n))) =
        each-node f _ (λ c e. sibling-node (parent_at f n) parent c (before-among None (Some n) c (children_of f (parent_at f n)) refl e)) in
        let next : IsNodeOrNone f (after n (children_of f (parent_at f n))) =
        each-node f _ (λ c e. sibling-node (parent_at f n) parent c (after-among n c (children_of f (parent_at f n)) e)) in
        record {
          link = is;
          shadow_is = shadow_is;
          next_is = ap (λ (l : Link). l.next) is ∙ next-same f n (parent_at f n) refl;
          lone = λ m. lone-after node.shadow _ m (ap (λ (l : Link). l.shadow) is);
          up = subst (IsUp f n) (ap (λ (s : Spot). above s) (sym same) ∙ ap (λ (l : Link). option_or l.parent l.host) (sym is)) around.0;
          parent = subst (IsNodeOrNone f) (sym (ap (λ (l : Link). l.parent) is)) parent;
          host = subst (IsNodeOrNone f) (sym (ap (λ (l : Link). l.host) is)) host;
          shadow = subst (IsNodeOrNone f) (sym shadow_is) shadow;
          first = subst (IsNodeOrNone f) (sym (ap (λ (l : Link). l.first) is)) first;
          last = subst (IsNodeOrNone f) (sym (ap (λ (l : Link). l.last) is)) last;
          previous = subst (IsNodeOrNone f) (sym (ap (λ (l : Link). l.previous) is)) previous;
          next = subst (IsNodeOrNone f) (sym (ap (λ (l : Link). l.next) is)) next;
        }

-- what an index gives
pub read : (nodes : List Node) (f : Trees) (n i : ℕ) (node : Node) → IsLinked (links nodes) f → IsNode f n → i ≡ n - 1 → node ≡ get_or nodes i node
    → Read f n node
read nodes f n i node is at e there =
    let within = in_range nodes f is n at in
    let here : link_at (links nodes) n ≡ Some (link_from node) = link_there nodes n i node e (omega (arith, within, e)) there in
    let said = is.linked n at in
    read_link f is.tidy n at node (cc)
