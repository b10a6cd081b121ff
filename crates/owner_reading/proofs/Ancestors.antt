-- The ancestors of a node, a step up at a time.
use Rattle.std.proofs.Common.{◌≡◌, ◌≢◌, ℕ, ◌<◌, List, [], ◌∷◌, Option, Some, None, refl, ap, sym, ◌∙◌, arith, length, append-nil, subst}
use Rattle.std.proofs.lemmas.Bool.Decides.{nat_tests}
use Rattle.node_trees.specs.Facts.{Facts}
use Rattle.node_trees.specs.Trees.{Trees, none, tree}
use Rattle.node_trees.specs.Nodes.{times, IsNode, IsTidy}
use Rattle.node_trees.specs.Spots.{Spot, spot_of, spot_in, parent_at}
use Rattle.node_trees.proofs.Weights.{IsApart}
use Rattle.tree_laws.proofs.Sums.{tidy-apart, apart-shadow, apart-children, apart-rest, here, in_shadow, in_children, in_rest, stands_where}
use Rattle.tree_laws.proofs.Pieces.{spot-here, spot-shadow, spot-children, spot-rest}
use Rattle.tree_laws.proofs.AtNode.{node_stands, node_spot, parent_at-is}
use Rattle.form_controls.specs.Owners.{ancestors_below, ancestors}
use Rattle.form_controls.proofs.Ancestors.{above-absent}

-- by the part of the trees that the node stands in

above-here : (above : List ℕ) (n m : ℕ) (x : Facts) (s k r : Trees) → m ≡ n → ancestors_below above n (tree m x s k r) ≡ above
above-here above n m x s k r e = grind (arith, nat_tests)

module _ (above : List ℕ) (n m : ℕ) (x : Facts) (s k r : Trees) (ne : m ≢ n) where
  above-shadow : times n k ≡ 0 → times n r ≡ 0 → ancestors_below above n (tree m x s k r) ≡ ancestors_below [] n s
  above-shadow b c = grind (arith, nat_tests, above-absent (m ∷ above) n k b, above-absent above n r c, append-nil (ancestors_below [] n s))

  above-children : times n s ≡ 0 → times n r ≡ 0 → ancestors_below above n (tree m x s k r) ≡ ancestors_below (m ∷ above) n k
  above-children a c = grind (arith, nat_tests, above-absent [] n s a, above-absent above n r c, append-nil (ancestors_below (m ∷ above) n k))

  above-rest : times n s ≡ 0 → times n k ≡ 0 → ancestors_below above n (tree m x s k r) ≡ ancestors_below above n r
  above-rest a b = grind (arith, nat_tests, above-absent [] n s a, above-absent (m ∷ above) n k b)

-- what is above n in a list of trees below these nodes, whose roots have the parent p: all these nodes, or a parent in the
-- list and what is above that, or nothing, where n is the root of a shadow tree in the list
data Up (above : List ℕ) (p : Option ℕ) (n : ℕ) (f : Trees) (row : Spot) : Type 0 where
  at_top : row.parent ≡ p → ancestors_below above n f ≡ above → Up above p n f row
  in_tree : (q : ℕ) → row.parent ≡ Some q → 0 < times q f → ancestors_below above n f ≡ q ∷ ancestors_below above q f → Up above p n f row
  at_host : row.parent ≡ None → ancestors_below above n f ≡ [] → Up above p n f row

up : (above : List ℕ) (p h : Option ℕ) (n : ℕ) (f : Trees) (row : Spot) → IsApart f → 0 < times n f → spot_in p h n f ≡ Some row → Up above p n f row
up above p h n none row apart pos is = absurd (omega arith)
up above p h n (tree m x s k r) row apart pos is =
    elim (stands_where n m x s k r apart pos) [
      | here e _ _ _ ↦
          let same : spot_of x p h s k ≡ row = let it = spot-here p h n m x s k r e in cc in
          at_top (sym (ap (λ (v : Spot). v.parent) same)) (above-here above n m x s k r e)
      | in_shadow ne a b c ↦ elim (up [] None (Some m) n s row (apart-shadow m x s k r apart) a (sym (spot-shadow p h n m x s k r ne b c) ∙ is)) [
        | at_top e z ↦ at_host e (above-shadow above n m x s k r ne b c ∙ z)
        | in_tree q e low z ↦
            let one = apart q in
            in_tree q e (omega arith) (above-shadow above n m x s k r ne b c ∙ z
            ∙ ap (λ v. q ∷ v) (sym (above-shadow above q m x s k r (grind (arith, nat_tests)) (grind (arith, nat_tests)) (grind (arith, nat_tests)))))
        | at_host e z ↦ at_host e (above-shadow above n m x s k r ne b c ∙ z)
      ]
      | in_children ne a b c ↦ elim
          (up (m ∷ above) (Some m) None n k row (apart-children m x s k r apart) b (sym (spot-children p h n m x s k r ne a c) ∙ is)) [
            | at_top e z ↦
                let one = apart m in
                in_tree m e (grind (arith, nat_tests)) (above-children above n m x s k r ne a c ∙ z ∙ ap (λ v. m ∷ v) (sym (above-here above m m x s k r refl)))
            | in_tree q e low z ↦
                let one = apart q in
                in_tree q e (omega arith) (above-children above n m x s k r ne a c ∙ z
                ∙ ap (λ v. q ∷ v) (sym (above-children above q m x s k r (grind (arith, nat_tests)) (grind (arith, nat_tests)) (grind (arith, nat_tests)))))
            | at_host e z ↦ at_host e (above-children above n m x s k r ne a c ∙ z)
          ]
      | in_rest ne a b c ↦ elim (up above p h n r row (apart-rest m x s k r apart) c (sym (spot-rest p h n m x s k r ne a b) ∙ is)) [
        | at_top e z ↦ at_top e (above-rest above n m x s k r ne a b ∙ z)
        | in_tree q e low z ↦
            let one = apart q in
            in_tree q e (omega arith) (above-rest above n m x s k r ne a b ∙ z
            ∙ ap (λ v. q ∷ v) (sym (above-rest above q m x s k r (grind (arith, nat_tests)) (grind (arith, nat_tests)) (grind (arith, nat_tests)))))
        | at_host e z ↦ at_host e (above-rest above n m x s k r ne a b ∙ z)
      ]
    ]

-- the ancestors of a node are its parent and the parent's ancestors

module _ (f : Trees) (n : ℕ) (tidy : IsTidy f) (node : IsNode f n) where
  pub ancestors-up : (q : ℕ) → parent_at f n ≡ Some q → ancestors f n ≡ q ∷ ancestors f q
  ancestors-up q e =
      let st = node_spot f n tidy node in
      let at = parent_at-is f n st.row st.is in
      elim (up [] None None n f st.row (tidy-apart f tidy) (node_stands f n tidy node) st.is) [
        | at_top z is ↦ absurd cc
        | in_tree p z low is ↦ let same : p ≡ q = cc in subst (λ v. ancestors f n ≡ v ∷ ancestors f v) same is
        | at_host z is ↦ absurd cc
      ]

  pub ancestors-top : parent_at f n ≡ None → ancestors f n ≡ []
  ancestors-top e =
      let st = node_spot f n tidy node in
      let at = parent_at-is f n st.row st.is in
      elim (up [] None None n f st.row (tidy-apart f tidy) (node_stands f n tidy node) st.is) [
        | at_top z is ↦ is
        | in_tree p z low is ↦ absurd cc
        | at_host z is ↦ is
      ]

  pub ancestors-less : (q : ℕ) → Some q ≡ parent_at f n → length (ancestors f q) < length (ancestors f n)
  ancestors-less q e = omega (arith, ap length (ancestors-up q (sym e)))
