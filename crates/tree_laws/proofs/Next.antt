-- The node that comes after another in tree order, by first child, next sibling and parent.
use Rattle.std.proofs.Common.{◌≡◌, ◌≢◌, ℕ, true, false, ◌==◌, if◌then◌else◌, List, [], ◌∷◌, ◌++◌, Option, Some, None, refl, ap, sym, ◌∙◌, arith}
use Rattle.std.proofs.lemmas.Bool.Decides.{nat_tests}
use Rattle.std.specs.Option.{option_or}
use Rattle.node_trees.specs.Facts.{Facts}
use Rattle.node_trees.specs.Trees.{Trees, none, tree, roots}
use Rattle.node_trees.specs.Nodes.{times}
use Rattle.node_trees.specs.Orders.{tree_order}
use Rattle.node_trees.specs.Paths.{is_among}
use Rattle.node_trees.specs.Spots.{Spot, spot_of, spot_in, first_of, after}
use Rattle.tree_laws.proofs.InOrder.{order-inside}
use Rattle.tree_laws.proofs.Sums.{apart-children, apart-rest, here, in_shadow, in_children, in_rest, stands_where}
use Rattle.tree_laws.proofs.Pieces.{spot-here, spot-children, spot-rest}
use Rattle.node_trees.proofs.Weights.{IsApart}
use Rattle.node_trees.proofs.Absent.{is_among-append}

pub option_or-assoc : (a b c : Option ℕ) → option_or (option_or a b) c ≡ option_or a (option_or b c)
option_or-assoc None b c = refl
option_or-assoc (Some a) b c = refl

-- ---- lists

pub first_of-append : (xs ys : List ℕ) → first_of (xs ++ ys) ≡ option_or (first_of xs) (first_of ys)
first_of-append [] ys = refl
first_of-append (x ∷ xs) ys = refl

pub after-left : (n : ℕ) (xs ys : List ℕ) → is_among n xs ≡ true → after n (xs ++ ys) ≡ option_or (after n xs) (first_of ys)
after-left n [] ys h = cc
after-left n (x ∷ xs) ys h = grind (arith, nat_tests, after-left n xs ys, first_of-append xs ys)

pub after-right : (n : ℕ) (xs ys : List ℕ) → is_among n xs ≡ false → after n (xs ++ ys) ≡ after n ys
after-right n [] ys h = refl
after-right n (x ∷ xs) ys h = grind (arith, nat_tests, after-right n xs ys)

-- ---- tree order

pub order-absent : (n : ℕ) (f : Trees) → times n f ≡ 0 → is_among n (tree_order f) ≡ false
order-absent n none z = refl
order-absent n (tree m x s k r) z =
    grind (arith, nat_tests, order-absent n k (omega arith), order-absent n r (omega arith), is_among-append n (tree_order k) (tree_order r))

order-first : (f : Trees) → first_of (tree_order f) ≡ first_of (roots f)
order-first none = refl
order-first (tree m x s k r) = refl

-- what comes in tree order after all that is below n
abbrev pub beyond : ℕ → Trees → Option ℕ
beyond n none = None
beyond n (tree m x shadow children rest) =
    if m == n then first_of (roots rest)
    else if is_among n (tree_order children) then option_or (beyond n children) (first_of (roots rest))
    else beyond n rest

-- where a number of tree order stands
data Ordered (n m : ℕ) (s k r : Trees) : Type 0 where
  first : m ≡ n → Ordered n m s k r
  below : m ≢ n → times n s ≡ 0 → is_among n (tree_order k) ≡ true → times n r ≡ 0 → Ordered n m s k r
  later : m ≢ n → times n s ≡ 0 → times n k ≡ 0 → is_among n (tree_order r) ≡ true → Ordered n m s k r

ordered : (n m : ℕ) (x : Facts) (s k r : Trees) → IsApart (tree m x s k r) → is_among n (tree_order (tree m x s k r)) ≡ true → Ordered n m s k r
ordered n m x s k r apart among = elim (stands_where n m x s k r apart (order-inside n (tree m x s k r) among)) [
  | here e a b c ↦ first e
  | in_shadow ne a b c ↦ absurd (grind (arith, nat_tests, order-absent n k b, order-absent n r c, is_among-append n (tree_order k) (tree_order r)))
  | in_children ne a b c ↦ below ne a (grind (arith, nat_tests, order-absent n r c, is_among-append n (tree_order k) (tree_order r))) c
  | in_rest ne a b c ↦ later ne a b (grind (arith, nat_tests, order-absent n k b, is_among-append n (tree_order k) (tree_order r)))
]

-- next is the first child, or else what is beyond all below
pub next_is : (p h : Option ℕ) (n : ℕ) (f : Trees) (row : Spot) → IsApart f → is_among n (tree_order f) ≡ true → spot_in p h n f ≡ Some row
    → after n (tree_order f) ≡ option_or (first_of row.children) (beyond n f)
next_is p h n none row apart among is = cc
next_is p h n (tree m x s k r) row apart among is = elim (ordered n m x s k r apart among) [
  | first e ↦
      let same : spot_of x p h s k ≡ row = let it = spot-here p h n m x s k r e in cc in
      let children : roots k ≡ row.children = ap (λ (v : Spot). v.children) same in
      rw (← children) (grind (arith, nat_tests, first_of-append (tree_order k) (tree_order r), order-first k, order-first r))
  | below ne a b c ↦
      let on = next_is (Some m) None n k row (apart-children m x s k r apart) b (sym (spot-children p h n m x s k r ne a c) ∙ is) in
      let left = after-left n (tree_order k) (tree_order r) b in
      grind (arith, nat_tests, on, left, order-first r, option_or-assoc (first_of row.children) (beyond n k) (first_of (roots r)))
  | later ne a b c ↦
      let on = next_is p h n r row (apart-rest m x s k r apart) c (sym (spot-rest p h n m x s k r ne a b) ∙ is) in
      let gone = order-absent n k b in
      let right = after-right n (tree_order k) (tree_order r) gone in
      grind (arith, nat_tests, on, right, gone)
]

-- n has a parent in the order, and what is beyond n is told by its place among the children of that parent
pub record Below (p h : Option ℕ) (n : ℕ) (f : Trees) (row : Spot) : Type 0 where
  pub parent : ℕ
  pub above : Spot
  pub parent_is : row.parent ≡ Some parent
  pub among : is_among parent (tree_order f) ≡ true
  pub spot_is : spot_in p h parent f ≡ Some above
  pub beyond_is : beyond n f ≡ option_or (after n above.children) (beyond parent f)

-- what is beyond n: by its place among the roots of the list, or by its place among the children of its parent
pub data Climb (p h : Option ℕ) (n : ℕ) (f : Trees) (row : Spot) : Type 0 where
  at_root : row.parent ≡ p → row.host ≡ h → beyond n f ≡ after n (roots f) → Climb p h n f row
  to_parent : Below p h n f row → Climb p h n f row

climb_children : (p h : Option ℕ) (n m : ℕ) (x : Facts) (s k r : Trees) (row : Spot) → IsApart (tree m x s k r) → m ≢ n → is_among n (tree_order k) ≡ true
    → Climb (Some m) None n k row
    → Below p h n (tree m x s k r) row
climb_children p h n m x s k r row apart ne among on = elim on [
  | at_root e o z ↦ record {
    parent = m;
    above = spot_of x p h s k;
    parent_is = e;
    among = grind (arith, nat_tests);
    spot_is = spot-here p h m m x s k r refl;
    beyond_is = grind (arith, nat_tests);
  }
  | to_parent b ↦
      let in_k = b.among in
      let low = order-inside b.parent k in_k in
      let one = apart b.parent in
      let z = b.beyond_is in
      record {
        parent = b.parent;
        above = b.above;
        parent_is = b.parent_is;
        among = grind (arith, nat_tests, is_among-append b.parent (tree_order k) (tree_order r));
        spot_is = spot-children p h b.parent m x s k r (grind (arith, nat_tests)) (grind (arith, nat_tests)) (grind (arith, nat_tests)) ∙ b.spot_is;
        beyond_is = grind (arith, nat_tests, option_or-assoc (after n b.above.children) (beyond b.parent k) (first_of (roots r)));
      }
]

climb_rest : (p h : Option ℕ) (n m : ℕ) (x : Facts) (s k r : Trees) (row : Spot) → IsApart (tree m x s k r) → m ≢ n → times n k ≡ 0 → Climb p h n r row
    → Climb p h n (tree m x s k r) row
climb_rest p h n m x s k r row apart ne no_k on = elim on [
  | at_root e o z ↦ at_root e o (grind (arith, nat_tests, order-absent n k no_k))
  | to_parent b ↦
      let in_r = b.among in
      let low = order-inside b.parent r in_r in
      let one = apart b.parent in
      let gone : times b.parent k ≡ 0 = grind (arith, nat_tests) in
      let z = b.beyond_is in
      to_parent (record {
        parent = b.parent;
        above = b.above;
        parent_is = b.parent_is;
        among = grind (arith, nat_tests, is_among-append b.parent (tree_order k) (tree_order r));
        spot_is = spot-rest p h b.parent m x s k r (grind (arith, nat_tests)) (grind (arith, nat_tests)) gone ∙ b.spot_is;
        beyond_is = grind (arith, nat_tests, order-absent n k no_k, order-absent b.parent k gone);
      })
]

pub climb : (p h : Option ℕ) (n : ℕ) (f : Trees) (row : Spot) → IsApart f → is_among n (tree_order f) ≡ true → spot_in p h n f ≡ Some row → Climb p h n f row
climb p h n none row apart among is = absurd cc
climb p h n (tree m x s k r) row apart among is = elim (ordered n m x s k r apart among) [
  | first e ↦
      let same : spot_of x p h s k ≡ row = let it = spot-here p h n m x s k r e in cc in
      at_root (sym (ap (λ (v : Spot). v.parent) same)) (sym (ap (λ (v : Spot). v.host) same)) (grind (arith, nat_tests))
  | below ne a b c ↦ to_parent (climb_children p h n m x s k r row apart ne b
      (climb (Some m) None n k row (apart-children m x s k r apart) b (sym (spot-children p h n m x s k r ne a c) ∙ is)))
  | later ne a b c ↦ climb_rest p h n m x s k r row apart ne b (climb p h n r row (apart-rest m x s k r apart) c (sym (spot-rest p h n m x s k r ne a b) ∙ is))
]

-- in the tree order of one tree a node that is not the root has a parent there
pub climb_tree : (p h : Option ℕ) (n m : ℕ) (x : Facts) (s k : Trees) (row : Spot) → IsApart (tree m x s k none) → m ≢ n
    → is_among n (tree_order (tree m x s k none)) ≡ true
    → spot_in p h n (tree m x s k none) ≡ Some row → Below p h n (tree m x s k none) row
climb_tree p h n m x s k row apart ne among is = elim (ordered n m x s k none apart among) [
  | first e ↦ absurd (ne e)
  | below _ a b c ↦ climb_children p h n m x s k none row apart ne b
      (climb (Some m) None n k row (apart-children m x s k none apart) b (sym (spot-children p h n m x s k none ne a c) ∙ is))
  | later _ a b c ↦ absurd (cc)
]
