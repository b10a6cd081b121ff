-- The root of a node's tree, a step up at a time, and who stands in the order of that tree.
use Rattle.std.proofs.Common.{◌≡◌, ◌≢◌, ℕ, zero, suc, ◌<◌, ◌≤◌, Bool, true, false, not, List, [], ◌∷◌, ◌++◌, Some, None, refl, ap, sym, ◌∙◌, subst, arith, inl}
use Rattle.std.proofs.Common.{inr, length}
use Rattle.std.specs.Prelude.{reverse, is_some}
use Rattle.std.specs.List.{find}
use Rattle.std.proofs.lemmas.Bool.{cases_eq, cases_lt}
use Rattle.std.proofs.lemmas.List.{reverse-append}
use Rattle.std.specs.Prelude.{unwrap_or}
use Rattle.node_trees.specs.Trees.{Trees, tree_of}
use Rattle.node_trees.specs.Nodes.{times, IsNode, IsTidy}
use Rattle.node_trees.specs.Orders.{tree_order_of}
use Rattle.node_trees.specs.Paths.{path, is_among, has_parent, root_at}
use Rattle.node_trees.specs.Spots.{parent_at}
use Rattle.tree_laws.proofs.Above.{nothing, a_parent, a_host, row_above, parent-above}
use Rattle.tree_laws.proofs.AtNode.{node_spot, node_stands}
use Rattle.tree_laws.proofs.Children.{among-root}
use Rattle.tree_laws.proofs.Following.{among-parent, parent-there}
use Rattle.tree_laws.proofs.InOrder.{order-inside, member_is_node}
use Rattle.tree_laws.proofs.Pieces.{path-long, tree_of-absent}
use Rattle.tree_laws.proofs.TreeMembers.{member-parent}
use Rattle.tree_laws.proofs.WayUp.{rootward}
use Rattle.above_reading.proofs.Cases.{by_option}

-- where an order has anybody, its tree is there
pub order-there : (r i : ℕ) (f : Trees) → is_among i (tree_order_of f r) ≡ true → 0 < times r f
order-there r i f among = elim (cases_lt 0 (times r f)) [
  | inl low ↦ low
  | inr out ↦ absurd (let low = order-inside i (tree_of r f) among in omega (arith, low, ap (times i) (tree_of-absent r f (omega arith))))
]

-- ---- the last on a path that has no parent, a step up

find-yes : (p : ℕ → Bool) (m : ℕ) (xs : List ℕ) → p m ≡ true → find p (m ∷ xs) ≡ Some m
find-yes p m xs e = rw e refl

find-no : (p : ℕ → Bool) (m : ℕ) (xs : List ℕ) → p m ≡ false → find p (m ∷ xs) ≡ find p xs
find-no p m xs e = rw e refl

module _ (f : Trees) (m : ℕ) (xs : List ℕ) where
  rootward-here : parent_at f m ≡ None → rootward f (xs ++ (m ∷ [])) ≡ Some m
  rootward-here free = ap (find (λ i. not (has_parent f i))) (reverse-append xs (m ∷ []))
      ∙ find-yes (λ i. not (has_parent f i)) m (reverse xs) (ap (λ o. not (is_some o)) free)

  rootward-on : (q : ℕ) → parent_at f m ≡ Some q → rootward f (xs ++ (m ∷ [])) ≡ rootward f xs
  rootward-on q up = ap (find (λ i. not (has_parent f i))) (reverse-append xs (m ∷ []))
      ∙ find-no (λ i. not (has_parent f i)) m (reverse xs) (ap (λ o. not (is_some o)) up)

-- a path ends with its node
record EndsHere (f : Trees) (m : ℕ) : Type 0 where
  above : List ℕ
  is : path m f ≡ above ++ (m ∷ [])

ends_here : (f : Trees) (m : ℕ) → IsTidy f → IsNode f m → EndsHere f m
ends_here f m tidy node =
    let st = node_spot f m tidy node in
    elim (row_above f m st.row tidy node st.is) [
      | nothing e o z ↦ record { above = []; is = z }
      | a_parent q e o a ↦ record { above = path q f; is = a.path_is }
      | a_host q e o a ↦ record { above = path q f; is = a.path_is }
    ]

-- r has no parent, is the root of m's tree, and m stands in its order
record IsRootOf (f : Trees) (m r : ℕ) : Type 0 where
  found : rootward f (path m f) ≡ Some r
  free : parent_at f r ≡ None
  node : IsNode f r
  among : is_among m (tree_order_of f r) ≡ true

record HasRoot (f : Trees) (m : ℕ) : Type 0 where
  root : ℕ
  is : IsRootOf f m root

module _ (f : Trees) (tidy : IsTidy f) where
  climb : (k m : ℕ) → length (path m f) ≤ k → IsNode f m → HasRoot f m
  climb zero m short node = absurd (omega (arith, short, path-long m f (node_stands f m tidy node)))
  climb (suc k) m short node = by_option (parent_at f m)
      (λ free.
      let e = ends_here f m tidy node in
      record {
        root = m;
        is = record {
          found = ap (rootward f) e.is ∙ rootward-here f m e.above free;
          free = free;
          node = node;
          among = among-root f m tidy node;
        };
      })
      (λ q up.
      let a = parent-above f m q tidy node up in
      let near = a.nearer in
      let on = climb k q (omega (arith, near, short)) a.is_node in
      let top = on.is.free in
      let ne : m ≢ on.root = λ e. absurd (let claim = ap (parent_at f) e in cc) in
      record {
        root = on.root;
        is = record {
          found = ap (rootward f) a.path_is ∙ rootward-on f m (path q f) q up ∙ on.is.found;
          free = top;
          node = on.is.node;
          among = member-parent f on.root tidy on.is.node m ne q (sym up) ∙ on.is.among;
        };
      })

  -- ---- what is read of the root of a node's tree

  module _ (m : ℕ) (node : IsNode f m) where
    its_root : IsRootOf f m (root_at f m)
    its_root =
        let it = climb (length (path m f)) m (omega arith) node in
        let is : root_at f m ≡ it.root = ap (λ o. unwrap_or o m) it.is.found in
        subst (IsRootOf f m) (sym is) it.is

    pub root-free : parent_at f (root_at f m) ≡ None
    root-free = its_root.free

    -- a node stands in its tree's order
    pub root-among : is_among m (tree_order_of f (root_at f m)) ≡ true
    root-among = its_root.among

    pub root-top : parent_at f m ≡ None → root_at f m ≡ m
    root-top free =
        let e = ends_here f m tidy node in
        ap (λ o. unwrap_or o m) (ap (rootward f) e.is ∙ rootward-here f m e.above free)

    pub root-up : (q : ℕ) → parent_at f m ≡ Some q → root_at f m ≡ root_at f q
    root-up q up =
        let a = parent-above f m q tidy node up in
        let on = climb (length (path q f)) q (omega arith) a.is_node in
        let here : root_at f q ≡ on.root = ap (λ o. unwrap_or o q) on.is.found in
        ap (λ o. unwrap_or o m) (ap (rootward f) a.path_is ∙ rootward-on f m (path q f) q up ∙ on.is.found) ∙ sym here

  -- ---- who stands in the order of a tree

  pub order-node : (r i : ℕ) → is_among i (tree_order_of f r) ≡ true → IsNode f r
  order-node r i among = tidy.only r (order-there r i f among)

  order-climb : (k r i : ℕ) → length (path i f) ≤ k → is_among i (tree_order_of f r) ≡ true → root_at f i ≡ root_at f r
  order-climb zero r i short among = absurd (omega (arith, short, path-long i f (node_stands f i tidy (member_is_node f r i tidy among))))
  order-climb (suc k) r i short among =
      let node = member_is_node f r i tidy among in
      let top = order-node r i among in
      elim (cases_eq i r) [
        | inl e ↦ ap (root_at f) e
        | inr ne ↦ by_option (parent_at f i) (λ free. absurd (parent-there f r tidy top i ne among free)) (λ q up.
            let near = (parent-above f i q tidy node up).nearer in
            root-up i node q up ∙ order-climb k r q (omega (arith, near, short)) (among-parent f r tidy top i q ne among up))
      ]

  -- who is in the order of a node's tree stands in the same tree
  pub order-root : (r i : ℕ) → is_among i (tree_order_of f r) ≡ true → root_at f i ≡ root_at f r
  order-root r i among = order-climb (length (path i f)) r i (omega arith) among

  -- and its root is that node, if that is a root
  pub order-top : (r i : ℕ) → parent_at f r ≡ None → is_among i (tree_order_of f r) ≡ true → root_at f i ≡ r
  order-top r i free among = order-root r i among ∙ root-top r (order-node r i among) free
