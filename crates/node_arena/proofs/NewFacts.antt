-- The links after a change of one node's facts are those of the forest after it.
use Rattle.std.proofs.Common.{◌≡◌, ℕ, List, Option, Some, None, refl, ap, sym, ◌∙◌, subst, arith, inl, inr}
use Rattle.std.proofs.lemmas.Bool.{cases_eq}
use Rattle.node_trees.specs.Facts.{Facts}
use Rattle.node_trees.specs.Trees.{Trees, with_facts}
use Rattle.node_trees.specs.Spots.{Spot, spot_at, parent_at, or_no_spot}
use Rattle.node_trees.specs.Nodes.{IsNode}
use Rattle.tree_laws.proofs.AtNode.{node_spot, spot_at-is}
use Rattle.tree_laws.proofs.Changed.{changed, size-with, spot-with-here, spot-with-other}
use Rattle.tree_laws.proofs.ChangedReads.{children_at-with}
use Rattle.tree_laws.proofs.Surplus.{KeepsKind}
use Rattle.tree_laws.proofs.Tidy.{tidy-with}
use Rattle.node_arena.specs.Links.{Link, link_at, link_of, link_in, children_of, IsLinked}
use Rattle.node_arena.specs.Writes.{edit_facts}
use Rattle.node_arena.proofs.Written.{edit-length, edit-here, edit-other}

module _ (links : List Link) (f : Trees) (is : IsLinked links f) (n : ℕ) (at : IsNode f n) (change : Facts → Facts) (keeps : KeepsKind f n change) where
  abbrev g : Trees
  g = with_facts n change f

  abbrev into : Link → Link
  into = λ l. record l { facts = change l.facts }

  here : spot_at g n ≡ record (spot_at f n) { facts = change (spot_at f n).facts }
  here =
      let st = node_spot f n is.tidy at in
      let old = spot_at-is f n st.row st.is in
      spot_at-is g n (record st.row { facts = change st.row.facts }) (spot-with-here n change None None f ∙ ap (changed change) st.is)
      ∙ ap (λ (s : Spot). record s { facts = change s.facts }) (sym old)

  siblings : (o : Option ℕ) → children_of g o ≡ children_of f o
  siblings None = refl
  siblings (Some q) = children_at-with n change f q

  pub changed_linked : IsLinked (edit_facts n change links) g
  changed_linked = record {
    tidy = tidy-with f n change at keeps is.tidy;
    counted = size-with n change f ∙ is.counted ∙ sym (edit-length n into links);
    linked = λ m node_g.
        let node : IsNode f m = record { low = node_g.low; high = omega (arith, node_g.high, size-with n change f) } in
        elim (cases_eq m n) [
          | inl e ↦
              let wanted : link_in g n ≡ into (link_in f n) =
              ap (λ (s : Spot). link_of n s (children_of g s.parent)) here
              ∙ ap (λ ks. link_of n (record (spot_at f n) { facts = change (spot_at f n).facts }) ks) (siblings (parent_at f n)) in
              subst (λ v. link_at (edit_facts n change links) v ≡ Some (link_in g v)) (sym e)
              (edit-here n into links (link_in f n) (is.linked n at) ∙ ap Some (sym wanted))
          | inr ne ↦
              let same : spot_at g m ≡ spot_at f m = ap or_no_spot (spot-with-other n change None None m f ne) in
              let wanted : link_in g m ≡ link_in f m =
              ap (λ (s : Spot). link_of m s (children_of g s.parent)) same ∙ ap (λ ks. link_of m (spot_at f m) ks) (siblings (parent_at f m)) in
              edit-other n m into links at.low node.low (λ e. ne (sym e)) ∙ is.linked m node ∙ ap Some (sym wanted)
        ];
  }
