-- Trees with a node more: among the roots, or as the root of a shadow tree.
use Rattle.std.proofs.Common.{◌≡◌, ◌≢◌, ℕ, ◌⊎◌, [], ◌∷◌, ◌++◌, Option, Some, None, refl, sym, ap, ◌∙◌, subst, arith, inl, inr, append_assoc}
use Rattle.std.proofs.lemmas.Bool.{cases_eq}
use Rattle.std.proofs.lemmas.Bool.Decides.{nat_tests}
use Rattle.std.specs.Option.{option_or}
use Rattle.node_trees.specs.Facts.{Facts}
use Rattle.node_trees.specs.Trees.{Trees, none, tree, join, single, with_shadow, tree_of}
use Rattle.node_trees.specs.Nodes.{times}
use Rattle.node_trees.specs.Orders.{tree_order}
use Rattle.node_trees.specs.Paths.{path}
use Rattle.node_trees.specs.Spots.{Spot, spot_of, spot_in, or_no_spot}
use Rattle.node_trees.proofs.Absent.{spot-absent}
use Rattle.tree_laws.specs.Alike.{AreAlike}
use Rattle.tree_laws.proofs.CutSpots.{path-join-left}
use Rattle.tree_laws.proofs.ShadowReads.{roots-shadow}

-- among the roots

module _ (i n : ℕ) (x : Facts) (ne : i ≢ n) where
  spot-beside : (p h : Option ℕ) (f : Trees) → spot_in p h i (join f (single n x)) ≡ spot_in p h i f
  spot-beside p h none = grind (arith, nat_tests)
  spot-beside p h (tree m y s k r) = let more = spot-beside p h r in grind (arith, nat_tests, more)

  path-beside : (f : Trees) → path i (join f (single n x)) ≡ path i f
  path-beside f = path-join-left i f (single n x) (grind (arith, nat_tests))

  tree_of-beside : (f : Trees) → tree_of i (join f (single n x)) ≡ tree_of i f
  tree_of-beside none = grind (arith, nat_tests)
  tree_of-beside (tree m y s k r) = let more = tree_of-beside r in grind (arith, nat_tests, more)

pub spot-new : (n : ℕ) (x : Facts) (p h : Option ℕ) (f : Trees) → times n f ≡ 0 → spot_in p h n (join f (single n x)) ≡ Some (spot_of x p h none none)
spot-new n x p h none z = grind (arith, nat_tests)
spot-new n x p h (tree m y s k r) z =
    let more = spot-new n x p h r (omega arith) in
    grind (arith, nat_tests, more, spot-absent None (Some m) n s (omega arith), spot-absent (Some m) None n k (omega arith))

-- as the root of a shadow tree: only the list of shadow roots of its host differs

abbrev unshadowed : Option Spot → Option Spot
unshadowed None = None
unshadowed (Some s) = Some (record s { shadow = [] })

unshadowed-or : (a b : Option Spot) → unshadowed (option_or a b) ≡ option_or (unshadowed a) (unshadowed b)
unshadowed-or None b = refl
unshadowed-or (Some s) b = refl

order-hung : (q : ℕ) (t f : Trees) → tree_order (with_shadow q t f) ≡ tree_order f
order-hung q t none = refl
order-hung q t (tree m y s k r) = grind (arith, nat_tests, order-hung q t k, order-hung q t r)

pub tree_order-join : (f g : Trees) → tree_order (join f g) ≡ tree_order f ++ tree_order g
tree_order-join none g = refl
tree_order-join (tree m y s k r) g = ap (λ v. m ∷ v) (ap (λ v. tree_order k ++ v) (tree_order-join r g) ∙ sym (append_assoc (tree_order k) (tree_order r) (tree_order g)))

module _ (i n q : ℕ) (x : Facts) (ne : i ≢ n) where
  spot-hung : (p h : Option ℕ) (f : Trees) → unshadowed (spot_in p h i (with_shadow q (single n x) f)) ≡ unshadowed (spot_in p h i f)
  spot-hung p h none = refl
  spot-hung p h (tree m y s k r) =
      let a = spot-hung None (Some m) s in
      let b = spot-hung (Some m) None k in
      let c = spot-hung p h r in
      grind (
        arith,
        nat_tests,
        a,
        b,
        c,
        roots-shadow q (single n x) k,
        spot-beside i n x ne None (Some m) s,
        unshadowed-or (spot_in None (Some m) i (with_shadow q (single n x) s))
            (option_or (spot_in (Some m) None i (with_shadow q (single n x) k)) (spot_in p h i (with_shadow q (single n x) r))),
        unshadowed-or (spot_in (Some m) None i (with_shadow q (single n x) k)) (spot_in p h i (with_shadow q (single n x) r)),
        unshadowed-or (spot_in None (Some m) i s) (option_or (spot_in (Some m) None i k) (spot_in p h i r)),
        unshadowed-or (spot_in (Some m) None i k) (spot_in p h i r),
      )

  path-hung : (f : Trees) → path i (with_shadow q (single n x) f) ≡ path i f
  path-hung none = refl
  path-hung (tree m y s k r) = grind (arith, nat_tests, path-hung s, path-hung k, path-hung r, path-beside i n x ne s)

  order_of-hung : (f : Trees) → tree_order (tree_of i (with_shadow q (single n x) f)) ≡ tree_order (tree_of i f)
  order_of-hung none = refl
  order_of-hung (tree m y s k r) =
      grind (
        arith,
        nat_tests,
        order_of-hung s,
        order_of-hung k,
        order_of-hung r,
        order-hung q (single n x) k,
        tree_of-beside i n x ne s,
        tree_order-join (tree_of i (with_shadow q (single n x) s)) (join (tree_of i (with_shadow q (single n x) k)) (tree_of i (with_shadow q (single n x) r))),
        tree_order-join (tree_of i (with_shadow q (single n x) k)) (tree_of i (with_shadow q (single n x) r)),
        tree_order-join (tree_of i s) (join (tree_of i k) (tree_of i r)),
        tree_order-join (tree_of i k) (tree_of i r),
      )

-- the new root: there is none where the host is none
abbrev IsHung : Facts → ℕ → Option Spot → Type 0
IsHung x q o = (o ≡ None) ⊎ (o ≡ Some (spot_of x None (Some q) none none))

hung-or : (x : Facts) (q : ℕ) (a b : Option Spot) → IsHung x q a → IsHung x q b → IsHung x q (option_or a b)
hung-or x q a b (inl e) other = subst (λ v. IsHung x q (option_or v b)) (sym e) other
hung-or x q a b (inr e) other = inr (ap (λ v. option_or v b) e)

hung : (n q : ℕ) (x : Facts) (p h : Option ℕ) (f : Trees) → times n f ≡ 0 → IsHung x q (spot_in p h n (with_shadow q (single n x) f))
hung n q x p h none z = inl refl
hung n q x p h (tree m y s k r) z = elim (cases_eq m q) [
  | inl e ↦
      let here = spot-new n x None (Some m) s (omega arith) in
      inr (grind (arith, nat_tests, here))
  | inr ne ↦
      let all = hung-or x q (spot_in None (Some m) n (with_shadow q (single n x) s))
      (option_or (spot_in (Some m) None n (with_shadow q (single n x) k)) (spot_in p h n (with_shadow q (single n x) r)))
      (hung n q x None (Some m) s (omega arith))
      (hung-or x q (spot_in (Some m) None n (with_shadow q (single n x) k)) (spot_in p h n (with_shadow q (single n x) r))
      (hung n q x (Some m) None k (omega arith)) (hung n q x p h r (omega arith))) in
      let is : spot_in p h n (with_shadow q (single n x) (tree m y s k r))
      ≡ option_or (spot_in None (Some m) n (with_shadow q (single n x) s))
      (option_or (spot_in (Some m) None n (with_shadow q (single n x) k)) (spot_in p h n (with_shadow q (single n x) r))) = grind (arith, nat_tests) in
      subst (IsHung x q) (sym is) all
]

-- what is read of both

module _ (n : ℕ) (x : Facts) (f : Trees) (free : times n f ≡ 0) where
  read-new : {A : Type 0} (read : Spot → A) (i : ℕ) → i ≢ n
      → read (or_no_spot (spot_in None None i (join f (single n x)))) ≡ read (or_no_spot (spot_in None None i f))
  read-new read i ne = ap (λ o. read (or_no_spot o)) (spot-beside i n x ne None None f)

  read-new-all : {A : Type 0} (read : Spot → A) → read (spot_of x None None none none) ≡ read (or_no_spot None) → (i : ℕ)
      → read (or_no_spot (spot_in None None i (join f (single n x)))) ≡ read (or_no_spot (spot_in None None i f))
  read-new-all read same i = elim (cases_eq i n) [
    | inl e ↦
        subst (λ v. read (or_no_spot (spot_in None None v (join f (single n x)))) ≡ read (or_no_spot (spot_in None None v f))) (sym e)
        (ap (λ o. read (or_no_spot o)) (spot-new n x None None f free) ∙ same ∙ sym (ap (λ o. read (or_no_spot o)) (spot-absent None None n f free)))
    | inr ne ↦ read-new read i ne
  ]

  pub alike_new : x.attributes ≡ [] → AreAlike n f (join f (single n x))
  alike_new bare = record {
    free = free;
    local = read-new (λ s. s.facts.local);
    kind = read-new (λ s. s.facts.kind);
    attributes = read-new-all (λ s. s.facts.attributes) bare;
    parent = read-new-all (λ s. s.parent) refl;
    children = read-new-all (λ s. s.children) refl;
    path_is = λ i ne. path-beside i n x ne f;
    order = λ i ne. ap tree_order (tree_of-beside i n x ne f);
  }

  module _ (q : ℕ) where
    read-hung : {A : Type 0} (read : Spot → A) → ((s : Spot) → read (record s { shadow = [] }) ≡ read s) → (i : ℕ) → i ≢ n
        → read (or_no_spot (spot_in None None i (with_shadow q (single n x) f))) ≡ read (or_no_spot (spot_in None None i f))
    read-hung read heedless i ne =
        sym (without (spot_in None None i (with_shadow q (single n x) f))) ∙ ap (λ o. read (or_no_spot o)) (spot-hung i n q x ne None None f)
        ∙ without (spot_in None None i f)
      where
        without : (o : Option Spot) → read (or_no_spot (unshadowed o)) ≡ read (or_no_spot o)
        without None = refl
        without (Some s) = heedless s

    read-hung-all : {A : Type 0} (read : Spot → A) → ((s : Spot) → read (record s { shadow = [] }) ≡ read s)
        → read (spot_of x None (Some q) none none) ≡ read (or_no_spot None) → (i : ℕ)
        → read (or_no_spot (spot_in None None i (with_shadow q (single n x) f))) ≡ read (or_no_spot (spot_in None None i f))
    read-hung-all read heedless same i = elim (cases_eq i n) [
      | inl e ↦
          subst (λ v. read (or_no_spot (spot_in None None v (with_shadow q (single n x) f))) ≡ read (or_no_spot (spot_in None None v f))) (sym e)
          (there (spot_in None None n (with_shadow q (single n x) f)) (hung n q x None None f free)
          ∙ sym (ap (λ o. read (or_no_spot o)) (spot-absent None None n f free)))
      | inr ne ↦ read-hung read heedless i ne
    ]
      where
        there : (o : Option Spot) → IsHung x q o → read (or_no_spot o) ≡ read (or_no_spot None)
        there o (inl e) = ap (λ v. read (or_no_spot v)) e
        there o (inr e) = ap (λ v. read (or_no_spot v)) e ∙ same

    pub alike_hung : x.attributes ≡ [] → AreAlike n f (with_shadow q (single n x) f)
    alike_hung bare = record {
      free = free;
      local = read-hung (λ s. s.facts.local) (λ s. refl);
      kind = read-hung (λ s. s.facts.kind) (λ s. refl);
      attributes = read-hung-all (λ s. s.facts.attributes) (λ s. refl) bare;
      parent = read-hung-all (λ s. s.parent) (λ s. refl) refl;
      children = read-hung-all (λ s. s.children) (λ s. refl) refl;
      path_is = λ i ne. path-hung i n q x ne f;
      order = λ i ne. order_of-hung i n q x ne f;
    }
