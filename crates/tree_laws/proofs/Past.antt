-- The node that comes after another in shadow-including tree order, by shadow root, first child, next sibling, parent and host.
use Rattle.std.proofs.Common.{◌≡◌, ◌≢◌, ℕ, true, ◌<◌, ◌==◌, if◌then◌else◌, ◌++◌, Option, Some, None, refl, ap, sym, ◌∙◌, arith}
use Rattle.std.specs.Prelude.{Bool, nat_lt}
use Rattle.std.proofs.lemmas.Bool.Decides.{nat_tests}
use Rattle.std.specs.Option.{option_or}
use Rattle.node_trees.specs.Facts.{Facts}
use Rattle.node_trees.specs.Trees.{Trees, none, tree, roots}
use Rattle.node_trees.specs.Nodes.{times}
use Rattle.node_trees.specs.Orders.{order}
use Rattle.node_trees.specs.Paths.{is_among}
use Rattle.node_trees.specs.Spots.{Spot, spot_of, spot_in, first_of, after}
use Rattle.node_trees.proofs.Weights.{IsApart}
use Rattle.tree_laws.proofs.Counts.{count-among}
use Rattle.tree_laws.proofs.Next.{option_or-assoc, first_of-append, after-left, after-right}
use Rattle.tree_laws.proofs.Pieces.{option_or-nothing, spot-here, spot-shadow, spot-children, spot-rest}
use Rattle.tree_laws.proofs.Sums.{apart-shadow, apart-children, apart-rest, here, in_shadow, in_children, in_rest, stands_where}
use Rattle.tree_laws.proofs.Walked.{count-order, order-has, order-lacks}

-- ---- who is in the order

pub in_order : (n : ℕ) (f : Trees) → is_among n (order f) ≡ true → 0 < times n f
in_order n f among = omega (arith, count-order n f, count-among n (order f) among)

order-begins_with : (f : Trees) → first_of (order f) ≡ first_of (roots f)
order-begins_with none = refl
order-begins_with (tree m x s k r) = refl

-- ---- what comes in the order after all that is below n

abbrev stands_in : ℕ → Trees → Bool
stands_in n f = nat_lt 0 (times n f)

abbrev pub past : ℕ → Trees → Option ℕ
past n none = None
past n (tree m x shadow children rest) =
    if m == n then first_of (roots rest)
    else if stands_in n shadow then option_or (past n shadow) (option_or (first_of (roots children)) (first_of (roots rest)))
    else if stands_in n children then option_or (past n children) (first_of (roots rest))
    else past n rest

module _ (n m : ℕ) (x : Facts) (s k r : Trees) where
  past-here : m ≡ n → past n (tree m x s k r) ≡ first_of (roots r)
  past-here e = grind (arith, nat_tests)

  past-shadow : m ≢ n → 0 < times n s → past n (tree m x s k r) ≡ option_or (past n s) (option_or (first_of (roots k)) (first_of (roots r)))
  past-shadow ne low = grind (arith, nat_tests)

  past-children : m ≢ n → times n s ≡ 0 → 0 < times n k → past n (tree m x s k r) ≡ option_or (past n k) (first_of (roots r))
  past-children ne out low = grind (arith, nat_tests)

  past-rest : m ≢ n → times n s ≡ 0 → times n k ≡ 0 → past n (tree m x s k r) ≡ past n r
  past-rest ne out gone = grind (arith, nat_tests)

  -- the order behind the first node
  behind_it : first_of (order s ++ (order k ++ order r)) ≡ option_or (first_of (roots s)) (option_or (first_of (roots k)) (first_of (roots r)))
  behind_it = first_of-append (order s) (order k ++ order r)
      ∙ cc (first_of-append (order k) (order r), order-begins_with s, order-begins_with k, order-begins_with r)

-- next is the shadow root, or else the first child, or else what is past all below
pub next_is : (p h : Option ℕ) (n : ℕ) (f : Trees) (row : Spot) → IsApart f → 0 < times n f → spot_in p h n f ≡ Some row
    → after n (order f) ≡ option_or (first_of row.shadow) (option_or (first_of row.children) (past n f))
next_is p h n none row apart there is = absurd (omega arith)
next_is p h n (tree m x s k r) row apart there is = elim (stands_where n m x s k r apart there) [
  | here e a b c ↦
      let same : spot_of x p h s k ≡ row = let it = spot-here p h n m x s k r e in cc in
      let start : after n (order (tree m x s k r)) ≡ first_of (order s ++ (order k ++ order r)) = grind (arith, nat_tests) in
      start ∙ behind_it n m x s k r ∙ ap (λ v. option_or (first_of (roots s)) (option_or (first_of (roots k)) v)) (sym (past-here n m x s k r e))
      ∙ ap (λ (v : Spot). option_or (first_of v.shadow) (option_or (first_of v.children) (past n (tree m x s k r)))) same
  | in_shadow ne a b c ↦
      let on = next_is None (Some m) n s row (apart-shadow m x s k r apart) a (sym (spot-shadow p h n m x s k r ne b c) ∙ is) in
      let start : after n (order (tree m x s k r)) ≡ after n (order s ++ (order k ++ order r)) = grind (arith, nat_tests) in
      let later : first_of (order k ++ order r) ≡ option_or (first_of (roots k)) (first_of (roots r)) =
      first_of-append (order k) (order r) ∙ cc (order-begins_with k, order-begins_with r) in
      start ∙ after-left n (order s) (order k ++ order r) (order-has n s a) ∙ cc (on, later)
      ∙ option_or-assoc (first_of row.shadow) (option_or (first_of row.children) (past n s)) _
      ∙ ap (option_or (first_of row.shadow))
      (option_or-assoc (first_of row.children) (past n s) _ ∙ ap (option_or (first_of row.children)) (sym (past-shadow n m x s k r ne a)))
  | in_children ne a b c ↦
      let on = next_is (Some m) None n k row (apart-children m x s k r apart) b (sym (spot-children p h n m x s k r ne a c) ∙ is) in
      let start : after n (order (tree m x s k r)) ≡ after n (order s ++ (order k ++ order r)) = grind (arith, nat_tests) in
      start ∙ after-right n (order s) (order k ++ order r) (order-lacks n s a) ∙ after-left n (order k) (order r) (order-has n k b)
      ∙ cc (on, order-begins_with r)
      ∙ option_or-assoc (first_of row.shadow) (option_or (first_of row.children) (past n k)) (first_of (roots r))
      ∙ ap (option_or (first_of row.shadow))
      (option_or-assoc (first_of row.children) (past n k) (first_of (roots r))
      ∙ ap (option_or (first_of row.children)) (sym (past-children n m x s k r ne a b)))
  | in_rest ne a b c ↦
      let on = next_is p h n r row (apart-rest m x s k r apart) c (sym (spot-rest p h n m x s k r ne a b) ∙ is) in
      let start : after n (order (tree m x s k r)) ≡ after n (order s ++ (order k ++ order r)) = grind (arith, nat_tests) in
      start ∙ after-right n (order s) (order k ++ order r) (order-lacks n s a) ∙ after-right n (order k) (order r) (order-lacks n k b) ∙ on
      ∙ ap (λ v. option_or (first_of row.shadow) (option_or (first_of row.children) v)) (sym (past-rest n m x s k r ne a b))
]

-- ---- what is past a node, by what it stands under

-- n stands below q, a node of the list: what is past n is told by its place among q's children, or as q's shadow root
pub data Up (p h : Option ℕ) (n : ℕ) (f : Trees) (row : Spot) : Type 0 where
  by_parent : (q : ℕ) (up : Spot) → row.parent ≡ Some q → row.host ≡ None → 0 < times q f → spot_in p h q f ≡ Some up
      → past n f ≡ option_or (after n up.children) (past q f) → Up p h n f row
  by_host : (q : ℕ) (up : Spot) → row.parent ≡ None → row.host ≡ Some q → 0 < times q f → spot_in p h q f ≡ Some up
      → past n f ≡ option_or (after n up.shadow) (option_or (first_of up.children) (past q f)) → Up p h n f row

-- or n is a root of the list
data Climb (p h : Option ℕ) (n : ℕ) (f : Trees) (row : Spot) : Type 0 where
  at_root : row.parent ≡ p → row.host ≡ h → past n f ≡ after n (roots f) → Climb p h n f row
  inner : Up p h n f row → Climb p h n f row

-- from a part of the trees to the whole: past a node of the part is what is past it there, or else `rest`
module _ (p h p' h' : Option ℕ) (n : ℕ) (f part : Trees) (row : Spot) (rest : Option ℕ) (lift : (q : ℕ) → 0 < times q part
    → (0 < times q f) × (spot_in p h q f ≡ spot_in p' h' q part) × (past q f ≡ option_or (past q part) rest)) (low : 0 < times n part) where
  up_whole : Up p' h' n part row → Up p h n f row
  up_whole u =
      let start = (lift n low).2 in
      elim u [
        | by_parent q up e o there is z ↦
            let w = lift q there in
            by_parent q up e o w.0 (w.1 ∙ is) (start ∙ ap (λ v. option_or v rest) z ∙ option_or-assoc (after n up.children) (past q part) rest
            ∙ ap (option_or (after n up.children)) (sym w.2))
        | by_host q up e o there is z ↦
            let w = lift q there in
            by_host q up e o w.0 (w.1 ∙ is)
            (start ∙ ap (λ v. option_or v rest) z ∙ option_or-assoc (after n up.shadow) (option_or (first_of up.children) (past q part)) rest
            ∙ ap (option_or (after n up.shadow)) (option_or-assoc (first_of up.children) (past q part) rest ∙ ap (option_or (first_of up.children)) (sym w.2)))
      ]

module _ (p h : Option ℕ) (n m : ℕ) (x : Facts) (s k r : Trees) (row : Spot) (apart : IsApart (tree m x s k r)) (ne : m ≢ n) where
  abbrev all : Trees
  all = tree m x s k r

  from_shadow : 0 < times n s → Climb None (Some m) n s row → Up p h n all row
  from_shadow low on =
      let rest = option_or (first_of (roots k)) (first_of (roots r)) in
      elim on [
        | at_root e o z ↦ by_host m (spot_of x p h s k) e o (grind (arith, nat_tests)) (spot-here p h m m x s k r refl)
            (past-shadow n m x s k r ne low ∙ ap (λ v. option_or v rest) z
            ∙ ap (λ v. option_or (after n (roots s)) (option_or (first_of (roots k)) v)) (sym (past-here m m x s k r refl)))
        | inner u ↦ up_whole p h None (Some m) n all s row rest
            (λ q there. let one = apart q in (
              omega (arith, there),
              spot-shadow p h q m x s k r (grind (arith, nat_tests)) (grind (arith, nat_tests)) (grind (arith, nat_tests)),
              past-shadow q m x s k r (grind (arith, nat_tests)) there,
            )) low u
      ]

  from_children : times n s ≡ 0 → 0 < times n k → Climb (Some m) None n k row → Up p h n all row
  from_children out low on = elim on [
    | at_root e o z ↦ by_parent m (spot_of x p h s k) e o (grind (arith, nat_tests)) (spot-here p h m m x s k r refl)
        (past-children n m x s k r ne out low ∙ ap (λ v. option_or v (first_of (roots r))) z
        ∙ ap (option_or (after n (roots k))) (sym (past-here m m x s k r refl)))
    | inner u ↦ up_whole p h (Some m) None n all k row (first_of (roots r))
        (λ q there. let one = apart q in (
          omega (arith, there),
          spot-children p h q m x s k r (grind (arith, nat_tests)) (grind (arith, nat_tests)) (grind (arith, nat_tests)),
          past-children q m x s k r (grind (arith, nat_tests)) (grind (arith, nat_tests)) there,
        )) low u
  ]

  from_rest : times n s ≡ 0 → times n k ≡ 0 → 0 < times n r → Climb p h n r row → Climb p h n all row
  from_rest out gone low on = elim on [
    | at_root e o z ↦ at_root e o (past-rest n m x s k r ne out gone ∙ z ∙ grind (arith, nat_tests))
    | inner u ↦ inner (up_whole p h p h n all r row None
        (λ q there. let one = apart q in (
          omega (arith, there),
          spot-rest p h q m x s k r (grind (arith, nat_tests)) (grind (arith, nat_tests)) (grind (arith, nat_tests)),
          past-rest q m x s k r (grind (arith, nat_tests)) (grind (arith, nat_tests)) (grind (arith, nat_tests)) ∙ sym (option_or-nothing (past q r)),
        )) low u)
  ]

climb : (p h : Option ℕ) (n : ℕ) (f : Trees) (row : Spot) → IsApart f → 0 < times n f → spot_in p h n f ≡ Some row → Climb p h n f row
climb p h n none row apart there is = absurd (omega arith)
climb p h n (tree m x s k r) row apart there is = elim (stands_where n m x s k r apart there) [
  | here e _ _ _ ↦
      let same : spot_of x p h s k ≡ row = let it = spot-here p h n m x s k r e in cc in
      at_root (sym (ap (λ (v : Spot). v.parent) same)) (sym (ap (λ (v : Spot). v.host) same)) (grind (arith, nat_tests))
  | in_shadow ne a b c ↦ inner (from_shadow p h n m x s k r row apart ne a
      (climb None (Some m) n s row (apart-shadow m x s k r apart) a (sym (spot-shadow p h n m x s k r ne b c) ∙ is)))
  | in_children ne a b c ↦ inner
      (from_children p h n m x s k r row apart ne a b
      (climb (Some m) None n k row (apart-children m x s k r apart) b (sym (spot-children p h n m x s k r ne a c) ∙ is)))
  | in_rest ne a b c ↦ from_rest p h n m x s k r row apart ne a b c
      (climb p h n r row (apart-rest m x s k r apart) c (sym (spot-rest p h n m x s k r ne a b) ∙ is))
]

-- in one tree a node that is not its root stands below another
pub climb_tree : (p h : Option ℕ) (n m : ℕ) (x : Facts) (s k : Trees) (row : Spot) → IsApart (tree m x s k none) → m ≢ n → 0 < times n (tree m x s k none)
    → spot_in p h n (tree m x s k none) ≡ Some row → Up p h n (tree m x s k none) row
climb_tree p h n m x s k row apart ne there is = elim (stands_where n m x s k none apart there) [
  | here e _ _ _ ↦ absurd (ne e)
  | in_shadow _ a b c ↦ from_shadow p h n m x s k none row apart ne a
      (climb None (Some m) n s row (apart-shadow m x s k none apart) a (sym (spot-shadow p h n m x s k none ne b c) ∙ is))
  | in_children _ a b c ↦ from_children p h n m x s k none row apart ne a b
      (climb (Some m) None n k row (apart-children m x s k none apart) b (sym (spot-children p h n m x s k none ne a c) ∙ is))
  | in_rest _ a b c ↦ absurd (omega (arith, c))
]
