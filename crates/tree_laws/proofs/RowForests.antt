-- Rows after a call are those of the forest after it.
use Rattle.std.proofs.Common.{◌≡◌, ◌≢◌, ℕ, ◌+◌, ◌<◌, List, [], Option, Some, None, refl, ap, sym, ◌∙◌, arith, inl, inr, true}
use Rattle.std.proofs.lemmas.Bool.Decides.{nat_tests}
use Rattle.std.proofs.lemmas.Bool.{cases_eq}
use Rattle.node_trees.specs.Facts.{Facts, is_element, is_shadow_root}
use Rattle.node_trees.specs.Trees.{Trees, none, tree, roots, tree_of, without, single, with_shadow, cut, graft}
use Rattle.node_trees.specs.Spots.{Spot, spot, spot_of, parent_at, kind_at}
use Rattle.node_trees.specs.Insertion.{may_insert}
use Rattle.node_trees.specs.Nodes.{times, size, surplus_at, IsNode}
use Rattle.tree_laws.specs.Numbers.{remove_number}
use Rattle.tree_laws.specs.Rows.{row_of_node, Stands, IsForest, Grafted, Severed, Attached}
use Rattle.tree_laws.specs.OneForest.{node_of_row}
use Rattle.tree_laws.proofs.Sums.{tidy-apart, times-without}
use Rattle.tree_laws.proofs.AtNode.{parent_at-is, host_at-is}
use Rattle.tree_laws.proofs.Above.{parent-above, parent-no_host}
use Rattle.tree_laws.proofs.AllowedCut.{parent-outside}
use Rattle.tree_laws.proofs.Sizes.{size-with_shadow, size-cut, new-absent}
use Rattle.tree_laws.proofs.Tidy.{tidy-with_shadow}
use Rattle.tree_laws.proofs.PlaceFits.{free-host}
use Rattle.tree_laws.proofs.AllowedGraft.{allowed-fits, allowed-size, allowed-tidy, tidy-cut-child}
use Rattle.tree_laws.proofs.Stands.{Standing, standing, Unlinked, Linked, Stands-without, Stands-put, Stands-frame, Stands-place, Stands-untouched}
use Rattle.tree_laws.proofs.Stands.{Stands-with_shadow}

-- the row of a node is what stands at it
pub stands_at : (rows : List Spot) (f : Trees) (n : ℕ) → IsForest rows f → IsNode f n → Standing rows n f
stands_at rows f n a at = standing rows n f a.stands (tidy-apart f a.tidy) (a.tidy.once n at)

pub row_is : (rows : List Spot) (f : Trees) (n : ℕ) (row : Spot) → IsForest rows f → IsNode f n → row_of_node rows n ≡ Some row → spot f n ≡ Some row
row_is rows f n row a at is = let st = stands_at rows f n a at in cc (st.row, st.it.spot_is, is)

-- a shadow root
pub attach_forest : (rows rows' : List Spot) (f : Trees) (h : ℕ) (x : Facts) (it : Spot) → IsForest rows f → IsNode f h → spot f h ≡ Some it
    → is_element (kind_at f h) ≡ true → it.shadow ≡ [] → is_shadow_root x.kind ≡ true → surplus_at x ≡ 0
    → Attached rows rows' h (size f + 1) x → IsForest rows' (with_shadow h (single (size f + 1) x) f)
attach_forest rows rows' f h x it a at is element bare fit own w =
    let one = a.tidy.once h at in
    let empty : (row : Spot) → row_of_node rows h ≡ Some row → row.shadow ≡ [] = λ row here. let same : row ≡ it =
    cc (row_is rows f h row a at here, is) in cc (same, bare) in
    record {
      stands = Stands-with_shadow rows rows' h (size f + 1) x w (omega arith) empty None None f (new-absent f a.tidy) (omega (arith, one)) a.stands;
      tidy = tidy-with_shadow f h x a.tidy at element fit own;
      counted = omega (arith, size-with_shadow h (size f + 1) x f a.tidy at, a.counted, w.length_is);
    }

-- children of others

not_in_children : (rows : List Spot) (n m : ℕ) (k : Trees) → ((row : Spot) → row_of_node rows n ≡ Some row → row.parent ≢ Some m) → Stands rows (Some m) None k
    → remove_number n (roots k) ≡ roots k
not_in_children rows n m none other st = refl
not_in_children rows n m (tree j x s k r) other st =
    elim (cases_eq j n) [
      | inl e ↦ absurd (other (spot_of x (Some m) None s k) (rw e at st.1) refl)
      | inr ne ↦ grind (arith, nat_tests, not_in_children rows n m r other st.4)
    ]

children_lack : (rows : List Spot) (f : Trees) (n m : ℕ) (row : Spot) → IsForest rows f → ((row : Spot) → row_of_node rows n ≡ Some row → row.parent ≢ Some m)
    → 0 < m → row_of_node rows m ≡ Some row
    → remove_number n row.children ≡ row.children
children_lack rows f n m row a other pos is =
    let st = stands_at rows f m a (node_of_row rows f m row a pos is) in
    let same : row ≡ spot_of st.it.facts st.it.parent st.it.host st.it.shadow st.it.children = cc (is, st.row) in
    rw same (not_in_children rows n m st.it.children other st.in_children)

times_self : (n : ℕ) (x : Facts) (s k : Trees) → times n (tree n x s k none) ≡ 1 + (times n s + times n k)
times_self n x s k = grind (arith, nat_tests)

-- n with its tree, and the others
record Parted (rows : List Spot) (n : ℕ) (f : Trees) : Type 0 where
  st : Standing rows n f
  one : times n f ≡ 1
  rest_lacks : times n (without n f) ≡ 0
  shadow_lacks : times n st.it.shadow ≡ 0
  children_lack : times n st.it.children ≡ 0
  all : (i : ℕ) → times i (tree_of n f) + times i (without n f) ≡ times i f
  lacks : (i : ℕ) → times i (tree_of n f) ≡ 0 → (times i st.it.shadow ≡ 0) × (times i st.it.children ≡ 0)

parted : (rows : List Spot) (n : ℕ) (f : Trees) → IsForest rows f → IsNode f n → Parted rows n f
parted rows n f a at =
    let one = a.tidy.once n at in
    let st = stands_at rows f n a at in
    let it = st.it in
    let split = times-without n n f (omega (arith, one)) in
    let here : times n (tree_of n f) ≡ 1 + (times n it.shadow + times n it.children) = ap (times n) it.tree_is ∙ times_self n it.facts it.shadow it.children in
    record {
      st = st;
      one = one;
      rest_lacks = omega (arith, split, here, one);
      shadow_lacks = omega (arith, split, here, one);
      children_lack = omega (arith, split, here, one);
      all = λ i. times-without i n f (omega (arith, one));
      lacks = λ i out. let whole : times i (tree n it.facts it.shadow it.children none) ≡ 0 =
          ap (times i) (sym it.tree_is) ∙ out in (omega (arith, whole), omega (arith, whole));
    }

-- an insertion
pub graft_forest : (rows rows' : List Spot) (f : Trees) (p n : ℕ) (b : Option ℕ) → IsForest rows f → IsNode f p → IsNode f n → may_insert f p n b ≡ None
    → parent_at f n ≡ None → Grafted rows rows' p n b → IsForest rows' (graft f p n b)
graft_forest rows rows' f p n b a ip at is loose g =
    let parts = parted rows n f a at in
    let it = parts.st.it in
    let it_spot = spot_of it.facts it.parent it.host it.shadow it.children in
    let no_parent : it.parent ≡ None = sym (parent_at-is f n it_spot it.spot_is) ∙ loose in
    let no_host = free-host f n it_spot a.tidy at it.spot_is no_parent (allowed-fits f p n b a.tidy ip at is) in
    let out_p = parent-outside f p n b a.tidy at is in
    let clear = parts.lacks p out_p in
    let its_row : (row : Spot) → row_of_node rows n ≡ Some row → row ≡ it_spot = λ row here. cc (here, parts.st.row) in
    let unlinked : Unlinked rows rows n = record {
      others = λ m row pos ne here. let lack =
          children_lack rows f n m row a (λ other there same. let e = its_row other there in cc (e, same)) pos here in rw lack here;
      no_host = λ row here. let e = its_row row here in cc (e, no_host);
    } in
    let rest : Stands rows None None (without n f) = Stands-without rows rows None None n f unlinked a.stands (omega (arith, parts.one)) in
    let linked : Linked rows rows' p n b = record { there = g.there; others = g.others } in
    let root : row_of_node rows' n ≡ Some (spot_of it.facts (Some p) None it.shadow it.children) = rw no_host at (g.moved _ parts.st.row) in
    let under = λ (up h : Option ℕ) (t : Trees) (lacks_n : times n t ≡ 0) (lacks_p : times p t ≡ 0) (st : Stands rows up h t).
    Stands-untouched rows rows' p n b up h t linked lacks_n lacks_p st in
    let top : Stands rows' (Some p) None (tree n it.facts it.shadow it.children none) =
    (at.low, root, under _ _ _ parts.shadow_lacks clear.0 parts.st.in_shadow, under _ _ _ parts.children_lack clear.1 parts.st.in_children, tt) in
    let one_rest : times p (without n f) ≡ 1 = omega (arith, parts.all p, out_p, a.tidy.once p ip) in
    record {
      stands = rw it.tree_is (Stands-put rows rows' p n b it.facts it.shadow it.children None None (without n f) linked parts.rest_lacks
          (omega (arith, one_rest)) top rest);
      tidy = allowed-tidy f p n b a.tidy ip at is;
      counted = omega (arith, allowed-size f p n b a.tidy ip at is, a.counted, g.length_is);
    }

-- a removal
pub cut_forest : (rows rows' : List Spot) (f : Trees) (p n : ℕ) → IsForest rows f → IsNode f n → parent_at f n ≡ Some p → Severed rows rows' p n
    → IsForest rows' (cut f n)
cut_forest rows rows' f p n a at child g =
    let parts = parted rows n f a at in
    let it = parts.st.it in
    let it_spot = spot_of it.facts it.parent it.host it.shadow it.children in
    let its_parent : it.parent ≡ Some p = sym (parent_at-is f n it_spot it.spot_is) ∙ child in
    let up = parent-above f n p a.tidy at child in
    let no_host : it.host ≡ None = sym (host_at-is f n it_spot it.spot_is) ∙ parent-no_host f n a.tidy at p child in
    let clear = parts.lacks p up.outside in
    let its_row : (row : Spot) → row_of_node rows n ≡ Some row → row ≡ it_spot = λ row here. cc (here, parts.st.row) in
    let root : row_of_node rows' n ≡ Some (spot_of it.facts None None it.shadow it.children) = rw no_host at (g.moved _ parts.st.row) in
    let unlinked : Unlinked rows rows' n = record {
      others = λ m row lo ne is. elim (cases_eq m p) [
        | inl e ↦ rw (sym e) at (g.there row (rw (sym e) is))
        | inr ne_p ↦
            let lack = children_lack rows f n m row a
            (λ other here claim. let e = its_row other here in let twice : Some m ≡ Some p = cc (e, claim, its_parent) in ne_p (cc)) lo is in
            rw lack (g.others m lo ne ne_p ∙ is)
      ];
      no_host = λ row here. let e = its_row row here in cc (e, no_host);
    } in
    let under = λ (over h : Option ℕ) (t : Trees) (lacks_n : times n t ≡ 0) (lacks_p : times p t ≡ 0) (st : Stands rows over h t).
    Stands-frame rows rows' over h t st (λ i lo pos. g.others i lo (λ j. omega (arith, ap (λ v. times v t) j)) (λ j. omega (arith, ap (λ v. times v t) j))) in
    let top : Stands rows' None None (tree n it.facts it.shadow it.children none) =
    (at.low, root, under _ _ _ parts.shadow_lacks clear.0 parts.st.in_shadow, under _ _ _ parts.children_lack clear.1 parts.st.in_children, tt) in
    let rest : Stands rows' None None (without n f) = Stands-without rows rows' None None n f unlinked a.stands (omega (arith, parts.one)) in
    record {
      stands = rw it.tree_is (Stands-place rows' n (tree n it.facts it.shadow it.children none) (without n f) top rest);
      tidy = tidy-cut-child f n p a.tidy at child;
      counted = omega (arith, size-cut f n a.tidy, a.counted, g.length_is);
    }
