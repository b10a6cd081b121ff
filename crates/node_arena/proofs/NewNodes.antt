-- The links after a node was made, and after a shadow root was attached, are those of the forest after it.
use Rattle.std.proofs.Common.{◌≡◌, ◌≢◌, ℕ, true, false, ◌+◌, ◌-◌, List, [], ◌∷◌, ◌++◌, Option, Some, None, refl, ap, sym, ◌∙◌, subst, arith, inl, inr}
use Rattle.std.proofs.Common.{length-append}
use Rattle.std.proofs.lemmas.Bool.{cases_eq}
use Rattle.ce_base.proofs.Places.{slice_get-append_front}
use Rattle.node_trees.specs.Facts.{Facts, is_element, is_shadow_root}
use Rattle.node_trees.specs.Trees.{Trees, none, with_node}
use Rattle.node_trees.specs.Spots.{Spot, spot_of, spot_at, kind_at, parent_at, children_at, or_no_spot}
use Rattle.node_trees.specs.Nodes.{size, surplus_at, IsNode}
use Rattle.tree_laws.proofs.Above.{parent-above}
use Rattle.tree_laws.proofs.ByIndex.{slice_get-append_end}
use Rattle.tree_laws.proofs.NewReads.{spot-new-here}
use Rattle.tree_laws.proofs.OtherSpots.{spot_at-new}
use Rattle.tree_laws.proofs.ShadowSpots.{with_root, attach_is, attached-size, spot-root, spot-host, spot-others}
use Rattle.tree_laws.proofs.Sizes.{new-absent, size-with_node}
use Rattle.tree_laws.proofs.Tidy.{tidy-with_node}
use Rattle.node_arena.specs.Links.{Link, link_at, link_of, link_in, children_of, IsLinked}
use Rattle.node_arena.specs.Writes.{edit}
use Rattle.node_arena.proofs.Written.{edit-length, edit-here, edit-other}

-- a node by itself
module _ (links : List Link) (f : Trees) (x : Facts) (is : IsLinked links f) (fit : is_shadow_root x.kind ≡ false) (own : surplus_at x ≡ 0) where
  abbrev n : ℕ
  n = size f + 1

  abbrev g : Trees
  g = with_node n x f

  same : (m : ℕ) → IsNode f m → spot_at g m ≡ spot_at f m
  same m at = spot_at-new n x f m is.tidy at

  siblings : (m : ℕ) → IsNode f m → (o : Option ℕ) → parent_at f m ≡ o → children_of g o ≡ children_of f o
  siblings m at None up = refl
  siblings m at (Some q) up = ap (λ (s : Spot). s.children) (same q (parent-above f m q is.tidy at up).is_node)

  pub pushed_linked : (l : Link) → l ≡ link_of n (spot_of x None None none none) [] → IsLinked (links ++ l ∷ []) g
  pushed_linked l e = record {
    tidy = tidy-with_node f x is.tidy fit own;
    counted = omega (arith, size-with_node n x f, is.counted, length-append links (l ∷ []));
    linked = λ m node. elim (cases_eq m n) [
      | inl last ↦
          let here : spot_at g n ≡ spot_of x None None none none = ap or_no_spot (spot-new-here n x f (new-absent f is.tidy)) in
          let wanted : link_in g n ≡ link_of n (spot_of x None None none none) [] = ap (λ (s : Spot). link_of n s (children_of g s.parent)) here in
          subst (λ v. link_at (links ++ l ∷ []) v ≡ Some (link_in g v)) (sym last)
          (slice_get-append_end links l (n - 1) (omega (arith, is.counted)) ∙ ap Some (e ∙ sym wanted))
      | inr old ↦
          let at : IsNode f m = record { low = node.low; high = omega (arith, node.high, size-with_node n x f, old) } in
          let wanted : link_in g m ≡ link_in f m =
          ap (λ (s : Spot). link_of m s (children_of g s.parent)) (same m at)
          ∙ ap (λ ks. link_of m (spot_at f m) ks) (siblings m at (parent_at f m) refl) in
          slice_get-append_front links (l ∷ []) (m - 1) (omega (arith, is.counted, at.low, at.high)) ∙ is.linked m at ∙ ap Some (sym wanted)
    ];
  }

-- a shadow root of h
module _ (links : List Link) (f : Trees) (is : IsLinked links f) (h : ℕ) (at : IsNode f h) (x : Facts) (element : is_element (kind_at f h) ≡ true)
    (bare : (spot_at f h).shadow ≡ []) (fit : is_shadow_root x.kind ≡ true) (own : surplus_at x ≡ 0) where
  abbrev r : ℕ
  r = size f + 1

  abbrev u : Trees
  u = with_root f is.tidy h at x element bare fit own

  bigger : size u ≡ size f + 1
  bigger = attached-size f is.tidy h at x element bare fit own

  same_children : (p : ℕ) → IsNode f p → children_at u p ≡ children_at f p
  same_children p node = elim (cases_eq p h) [
    | inl e ↦ subst (λ v. children_at u v ≡ children_at f v) (sym e) (ap (λ (s : Spot). s.children) (spot-host f is.tidy h at x element bare fit own))
    | inr ne ↦ ap (λ (s : Spot). s.children) (spot-others f is.tidy h at x element bare fit own p node ne)
  ]

  same_siblings : (m : ℕ) → IsNode f m → (o : Option ℕ) → parent_at f m ≡ o → children_of u o ≡ children_of f o
  same_siblings m node None up = refl
  same_siblings m node (Some p) up = same_children p (parent-above f m p is.tidy node up).is_node

  module _ (l : Link) (made : l ≡ link_of r (spot_of x None (Some h) none none) []) where
    abbrev change : Link → Link
    change = λ k. record k { shadow = r ∷ [] }

    abbrev both : List Link
    both = links ++ l ∷ []

    linked_root : link_at (edit h change both) r ≡ Some (link_in u r)
    linked_root =
        let wanted : link_in u r ≡ link_of r (spot_of x None (Some h) none none) [] =
        ap (λ (s : Spot). link_of r s (children_of u s.parent)) (spot-root f is.tidy h at x element bare fit own) in
        edit-other h r change both at.low (omega arith) (λ j. omega (arith, j, at.high)) ∙ slice_get-append_end links l (r - 1) (omega (arith, is.counted))
        ∙ ap Some (made ∙ sym wanted)

    was : (m : ℕ) → IsNode f m → link_at both m ≡ Some (link_in f m)
    was m old = slice_get-append_front links (l ∷ []) (m - 1) (omega (arith, is.counted, old.low, old.high)) ∙ is.linked m old

    linked_host : link_at (edit h change both) h ≡ Some (link_in u h)
    linked_host =
        let wanted : link_in u h ≡ record (link_in f h) { shadow = r ∷ [] } =
        ap (λ (s : Spot). link_of h s (children_of u s.parent)) (spot-host f is.tidy h at x element bare fit own)
        ∙ ap (λ ks. link_of h (record (spot_at f h) { shadow = r ∷ [] }) ks) (same_siblings h at (parent_at f h) refl) in
        edit-here h change both (link_in f h) (was h at) ∙ ap Some (sym wanted)

    linked_other : (m : ℕ) → IsNode f m → m ≢ h → link_at (edit h change both) m ≡ Some (link_in u m)
    linked_other m old m_h =
        let wanted : link_in u m ≡ link_in f m =
        ap (λ (s : Spot). link_of m s (children_of u s.parent)) (spot-others f is.tidy h at x element bare fit own m old m_h)
        ∙ ap (λ ks. link_of m (spot_at f m) ks) (same_siblings m old (parent_at f m) refl) in
        edit-other h m change both at.low old.low (λ j. m_h (sym j)) ∙ was m old ∙ ap Some (sym wanted)

    pub attached_linked : IsLinked (edit h change both) u
    attached_linked = record {
      tidy = (attach_is f is.tidy h at x element bare fit own).tidy;
      counted = omega (arith, bigger, is.counted, edit-length h change both, length-append links (l ∷ []));
      linked = λ m node. elim (cases_eq m r) [
        | inl e ↦ subst (λ v. link_at (edit h change both) v ≡ Some (link_in u v)) (sym e) linked_root
        | inr m_r ↦
            let old : IsNode f m = record { low = node.low; high = omega (arith, node.high, bigger, m_r) } in
            elim (cases_eq m h) [
              | inl e ↦ subst (λ v. link_at (edit h change both) v ≡ Some (link_in u v)) (sym e) linked_host
              | inr m_h ↦ linked_other m old m_h
            ]
      ];
    }
