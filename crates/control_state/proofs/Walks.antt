-- Walks along the children of a node, or along its tree order.
use Rattle.std.proofs.Common.{◌≡◌, ℕ, Bool, true, false, cond, ◌<◌, List, [], ◌∷◌, length, Option, Some, None, refl, ap, sym, ◌∙◌, subst, arith}
use Rattle.std.specs.Prelude.{filter, flat_map, fold, if◌then◌else◌}
use Rattle.std.proofs.lemmas.List.Sums.{fold-append}
use Rattle.node_trees.specs.Trees.{Trees}
use Rattle.node_trees.specs.Nodes.{IsNode, IsNodeOrNone, IsTidy}
use Rattle.node_trees.specs.Orders.{tree_order_of}
use Rattle.node_trees.specs.Paths.{is_among}
use Rattle.node_trees.specs.Spots.{after, children_at, first_of, next_among, next_sibling_at}
use Rattle.tree_laws.proofs.Counts.{AreApart}
use Rattle.tree_laws.proofs.InOrder.{member_is_node}
use Rattle.tree_laws.proofs.Children.{child-node, child-parent, children_at-apart, order-begins, tree_order-apart}
use Rattle.control_state.proofs.Left.{IsAmongOrNone, left_from, among-first, among-next, left-whole, left-next}

-- some of a list of nodes were passed, and what comes of the others makes of this what comes of all
pub record Walks {S : Type 0} (f : Trees) (xs : List ℕ) (step : S → ℕ → S) (start now : S) (next : Option ℕ) : Type 0 where
  pub node : IsNodeOrNone f next
  pub among : IsAmongOrNone xs next
  pub is : fold step start xs ≡ fold step now (left_from next xs)

module _ (f : Trees) (xs : List ℕ) (apart : AreApart xs) (nodes : (n : ℕ) → is_among n xs ≡ true → IsNode f n) where
  node-or-none : (next : Option ℕ) → IsAmongOrNone xs next → IsNodeOrNone f next
  node-or-none None among = tt
  node-or-none (Some n) among = nodes n among

  begins : {S : Type 0} (step : S → ℕ → S) (start : S) (next : Option ℕ) → next ≡ first_of xs → Walks f xs step start start next
  begins step start next e = record {
    node = node-or-none next (among-first xs next e);
    among = among-first xs next e;
    is = ap (fold step start) (sym (left-whole xs next e));
  }

  goes-on : {S : Type 0} (step : S → ℕ → S) (start now new : S) (at next : Option ℕ) (n : ℕ) → Walks f xs step start now at → at ≡ Some n →
      next ≡ after n xs → new ≡ step now n → Walks f xs step start new next
  goes-on step start now new at next n walk is e made =
      let here = subst (Walks f xs step start now) is walk in
      record {
        node = node-or-none next (among-next xs n next e);
        among = among-next xs n next e;
        is = here.is ∙ ap (fold step now) (left-next xs n next apart here.among e) ∙ ap (λ v. fold step v (left_from next xs)) (sym made);
      }

  is-less : {S : Type 0} (step : S → ℕ → S) (start now : S) (at next : Option ℕ) (n : ℕ) → Walks f xs step start now at → at ≡ Some n →
      next ≡ after n xs → length (left_from next xs) < length (left_from at xs)
  is-less step start now at next n walk is e =
      let here = subst (Walks f xs step start now) is walk in
      let longer = ap length (left-next xs n next apart here.among e) in
      subst (λ v. length (left_from next xs) < length (left_from v xs)) (sym is) (omega (arith, longer))

pub walk-ends : {S : Type 0} (f : Trees) (xs : List ℕ) (step : S → ℕ → S) (start now : S) (at : Option ℕ) → Walks f xs step start now at → at ≡ None
    → now ≡ fold step start xs
walk-ends f xs step start now at walk is = let here = subst (Walks f xs step start now) is walk in sym here.is

-- along the children of a node, from one sibling to the next

module _ (f : Trees) (p : ℕ) (tidy : IsTidy f) (node : IsNode f p) {S : Type 0} (step : S → ℕ → S) (start : S) where
  sibling : (now : S) (at next : Option ℕ) (n : ℕ) → Walks f (children_at f p) step start now at → at ≡ Some n → next ≡ next_sibling_at f n
      → next ≡ after n (children_at f p)
  sibling now at next n walk is e =
      let here = subst (Walks f (children_at f p) step start now) is walk in
      e ∙ ap (next_among f n) (child-parent f p tidy node n here.among)

  pub walk-on : (now new : S) (at next : Option ℕ) (n : ℕ) → Walks f (children_at f p) step start now at → at ≡ Some n →
      next ≡ next_sibling_at f n → new ≡ step now n → Walks f (children_at f p) step start new next
  walk-on now new at next n walk is e made =
      goes-on f (children_at f p) (children_at-apart f p tidy node) (child-node f p tidy node) step start now new at next n walk is
      (sibling now at next n walk is e) made

  pub walk-less : (now : S) (at next : Option ℕ) (n : ℕ) → Walks f (children_at f p) step start now at → at ≡ Some n →
      next ≡ next_sibling_at f n → length (left_from next (children_at f p)) < length (left_from at (children_at f p))
  walk-less now at next n walk is e =
      is-less f (children_at f p) (children_at-apart f p tidy node) (child-node f p tidy node) step start now at next n walk is
      (sibling now at next n walk is e)

-- along the tree order of a node

module _ (f : Trees) (root : ℕ) (tidy : IsTidy f) {S : Type 0} (step : S → ℕ → S) (start : S) where
  in-order : (n : ℕ) → is_among n (tree_order_of f root) ≡ true → IsNode f n
  in-order n among = member_is_node f root n tidy among

  pub order-starts : IsNode f root → Walks f (tree_order_of f root) step start start (Some root)
  order-starts node =
      let it = order-begins f root tidy node in
      begins f (tree_order_of f root) (tree_order-apart f root tidy) in-order step start (Some root) (sym (ap first_of it.is))

  pub order-on : (now new : S) (at next : Option ℕ) (n : ℕ) → Walks f (tree_order_of f root) step start now at → at ≡ Some n →
      next ≡ after n (tree_order_of f root) → new ≡ step now n → Walks f (tree_order_of f root) step start new next
  order-on now new at next n walk is e made =
      goes-on f (tree_order_of f root) (tree_order-apart f root tidy) in-order step start now new at next n walk is e made

  pub order-less : (now : S) (at next : Option ℕ) (n : ℕ) → Walks f (tree_order_of f root) step start now at → at ≡ Some n →
      next ≡ after n (tree_order_of f root) → length (left_from next (tree_order_of f root)) < length (left_from at (tree_order_of f root))
  order-less now at next n walk is e = is-less f (tree_order_of f root) (tree_order-apart f root tidy) in-order step start now at next n walk is e

-- steps that pass some over, or take some together

pub fold-filter : {S : Type 0} (step : S → ℕ → S) (passes : ℕ → Bool) (s : S) (xs : List ℕ)
    → fold (λ v n. if passes n then step v n else v) s xs ≡ fold step s (filter passes xs)
fold-filter step passes s [] = refl
fold-filter {S = S} step passes s (x ∷ xs) = by_test (passes x) (λ v. fold-filter step passes v xs)
  where
    by_test : (b : Bool) → ((v : S) → fold (λ w n. if passes n then step w n else w) v xs ≡ fold step v (filter passes xs)) →
        fold (λ w n. if passes n then step w n else w) (cond b (step s x) s) xs ≡ fold step s (cond b (x ∷ filter passes xs) (filter passes xs))
    by_test true later = later (step s x)
    by_test false later = later s

pub fold-flat : {S : Type 0} (step : S → ℕ → S) (parts : ℕ → List ℕ) (s : S) (xs : List ℕ)
    → fold (λ v n. fold step v (parts n)) s xs ≡ fold step s (flat_map parts xs)
fold-flat step parts s [] = refl
fold-flat step parts s (x ∷ xs) = fold-flat step parts (fold step s (parts x)) xs ∙ sym (fold-append step s (parts x) (flat_map parts xs))
