-- Links are those of one forest at most.
use Rattle.std.specs.Prelude.{◌≡◌, ℕ, zero, suc, true, ◌≤◌, List, [], ◌∷◌, Option, Some, refl}
use Rattle.std.specs.Coded.{Coded, Coded-set, code_by, coded×, coded_ℕ, coded_list, coded_option, ×_prop, Unit-prop, le_prop}
use Rattle.std.proofs.Common.{arith, ap, sym, subst, ◌∙◌}
use Rattle.std.proofs.lemmas.Bool.Decides.{nat_tests}
use Rattle.node_trees.specs.Facts.{Facts}
use Rattle.node_trees.specs.Trees.{Trees, none, tree}
use Rattle.node_trees.specs.Spots.{spot_at, children_at, first_of, after}
use Rattle.node_trees.specs.TreesCode.{facts_code}
use Rattle.node_trees.specs.Paths.{is_among}
use Rattle.node_trees.specs.Nodes.{Rises, size, IsNode, IsTidy}
use Rattle.tree_laws.specs.Rows.{rows_to, rows_of, IsForest}
use Rattle.tree_laws.specs.OneForest.{IsForest-unique}
use Rattle.tree_laws.proofs.Counts.{AreApart, count-among}
use Rattle.tree_laws.proofs.Children.{child-parent, child-node, children_at-apart}
use Rattle.tree_laws.proofs.ForestRows.{rows_of-forest}
use Rattle.node_arena.specs.Links.{Link, link_at, link_in, children_of, IsLinked}

-- ---- this fact has one proof at most

abbrev link_code : Coded Link
link_code =
    code_by (Facts × (Option ℕ × (Option ℕ × (List ℕ × (Option ℕ × (Option ℕ × (Option ℕ × Option ℕ)))))))
    (coded× facts_code (coded× (coded_option coded_ℕ) (coded× (coded_option coded_ℕ) (coded× (coded_list coded_ℕ)
    (coded× (coded_option coded_ℕ) (coded× (coded_option coded_ℕ) (coded× (coded_option coded_ℕ) (coded_option coded_ℕ))))))))
    (λ l. (l.facts, (l.parent, (l.host, (l.shadow, (l.first, (l.last, (l.previous, l.next))))))))
    (λ p. record {
      facts = p.0;
      parent = p.1.0;
      host = p.1.1.0;
      shadow = p.1.1.1.0;
      first = p.1.1.1.1.0;
      last = p.1.1.1.1.1.0;
      previous = p.1.1.1.1.1.1.0;
      next = p.1.1.1.1.1.1.1;
    }) (λ _. refl)

Rises-prop : (low : ℕ) (f : Trees) → IsProp (Rises low f)
Rises-prop low none = Unit-prop
Rises-prop low (tree m x s k r) = ×_prop le_prop (Rises-prop m r)

IsNode-prop : (f : Trees) (n : ℕ) → IsProp (IsNode f n)
IsNode-prop f n = hlevel le_prop

IsTidy-prop : (f : Trees) → IsProp (IsTidy f)
IsTidy-prop f =
    let a = Rises-prop 0 f in
    let b = Coded-set coded_ℕ in
    let c = IsNode-prop f in
    hlevel (a, b, c, le_prop)

pub IsLinked-prop : (links : List Link) (f : Trees) → IsProp (IsLinked links f)
IsLinked-prop links f =
    let a = IsTidy-prop f in
    let b = Coded-set coded_ℕ in
    let c = λ (n : ℕ). Coded-set (coded_option link_code) (link_at links n) (Some (link_in f n)) in
    hlevel (a, b, c)

-- ---- two forests with the same links

-- lists that begin alike, and where the same follows each number
same-lists : (xs ys : List ℕ) → AreApart xs → AreApart ys → first_of xs ≡ first_of ys
    → ((m : ℕ) → is_among m xs ≡ true → is_among m ys ≡ true → after m xs ≡ after m ys) → xs ≡ ys
same-lists [] [] a b e on = refl
same-lists [] (y ∷ ys) a b e on = absurd cc
same-lists (x ∷ xs) [] a b e on = absurd cc
same-lists (x ∷ xs) (y ∷ ys) a b e on =
    let here : x ≡ y = cc in
    let next : first_of xs ≡ first_of ys = let it = on x (grind (arith, nat_tests)) (grind (arith, nat_tests)) in grind (arith, nat_tests) in
    let rest = same-lists xs ys (λ i. omega (arith, a i)) (λ i. omega (arith, b i)) next (λ m in_x in_y.
    let one_x = a x in
    let one_y = b y in
    let low_x = count-among m xs in_x in
    let low_y = count-among m ys in_y in
    let one = a m in
    let two = b m in
    let it = on m (grind (arith, nat_tests)) (grind (arith, nat_tests)) in
    grind (arith, nat_tests)) in
    cc (here, rest)

module _ (f : Trees) (q c : ℕ) (tidy : IsTidy f) (at : IsNode f q) (child : is_among c (children_at f q) ≡ true) where
  -- what follows a child is in its link
  next_of-child : (link_in f c).next ≡ after c (children_at f q)
  next_of-child = ap (λ o. after c (children_of f o)) (child-parent f q tidy at c child)

module _ (f g : Trees) (tidy_f : IsTidy f) (tidy_g : IsTidy g) (long : size f ≡ size g) (same : (n : ℕ) → IsNode f n → link_in f n ≡ link_in g n) where
  over : (n : ℕ) → IsNode f n → IsNode g n
  over n at = record { low = at.low; high = omega (arith, at.high, long) }

  same-children : (n : ℕ) → IsNode f n → children_at f n ≡ children_at g n
  same-children n at = same-lists (children_at f n) (children_at g n) (children_at-apart f n tidy_f at) (children_at-apart g n tidy_g (over n at))
      (ap (λ (l : Link). l.first) (same n at))
      (λ m in_f in_g. sym (next_of-child f n m tidy_f at in_f) ∙ ap (λ (l : Link). l.next) (same m (child-node f n tidy_f at m in_f))
      ∙ next_of-child g n m tidy_g (over n at) in_g)

  same-spot : (n : ℕ) → IsNode f n → spot_at f n ≡ spot_at g n
  same-spot n at =
      let e = same n at in
      let children = same-children n at in
      λ i. record { facts = (e i).facts; parent = (e i).parent; host = (e i).host; shadow = (e i).shadow; children = children i }

  same-rows : (k : ℕ) → k ≤ size f → rows_to f k ≡ rows_to g k
  same-rows zero le = refl
  same-rows (suc k) le = cc (same-rows k (omega arith), same-spot (suc k) (record { low = omega arith; high = le }))

pub IsLinked-unique : (links : List Link) (f g : Trees) → IsLinked links f → IsLinked links g → f ≡ g
IsLinked-unique links f g a b =
    let long : size f ≡ size g = a.counted ∙ sym b.counted in
    let some : (n : ℕ) → IsNode f n → Some (link_in f n) ≡ Some (link_in g n)
    = λ n at. sym (a.linked n at) ∙ b.linked n (record { low = at.low; high = omega (arith, at.high, long) }) in
    let rows : rows_of f ≡ rows_of g = same-rows f g a.tidy b.tidy long (λ n at. cc (some n at)) (size f) (omega arith) ∙ ap (rows_to g) long in
    IsForest-unique (rows_of g) f g (subst (λ v. IsForest v f) rows (rows_of-forest f a.tidy)) (rows_of-forest g b.tidy)
