-- What a test finds in the order of one tree, of those that are in one tree before a removal and in one tree after it, stays.
use Rattle.std.proofs.Common.{◌≡◌, ◌≢◌, ℕ, Bool, true, false, [], Some, None, ap, sym, ◌∙◌, subst, arith, inl, inr}
use Rattle.std.specs.Prelude.{filter}
use Rattle.std.proofs.lemmas.Bool.{cases_lt, false_from_ne_true}
use Rattle.node_trees.specs.Trees.{Trees, tree_of, without, cut}
use Rattle.node_trees.specs.Nodes.{times, IsNode, IsTidy}
use Rattle.node_trees.specs.Orders.{tree_order_of}
use Rattle.node_trees.specs.Paths.{is_among, root_at}
use Rattle.node_trees.specs.Spots.{parent_at}
use Rattle.tree_laws.proofs.AtNode.{node_stands}
use Rattle.tree_laws.proofs.CutReads.{not-left, parent_at-cut}
use Rattle.tree_laws.proofs.Inside.{tree_apart}
use Rattle.tree_laws.proofs.InOrder.{order-inside}
use Rattle.tree_laws.proofs.OrderSteps.{tree_of-inside}
use Rattle.tree_laws.proofs.Rooted.{root_is_node}
use Rattle.tree_laws.proofs.Sums.{tidy-apart}
use Rattle.above_reading.proofs.Aside.{tree_of-place, tree_of-place-in, tree_of-without}
use Rattle.above_reading.proofs.OutOfTree.{above-outside}
use Rattle.above_reading.proofs.CutRoots.{cut-tidy, cut-tree, root-cut-in, root-cut-out}
use Rattle.above_reading.proofs.Kept.{found_in, kept-cut}
use Rattle.above_reading.proofs.Only.{found-only}
use Rattle.above_reading.proofs.Tests.{filter-none}
use Rattle.above_reading.proofs.Cases.{by_test}
use Rattle.above_reading.proofs.Roots.{root-free, root-among, order-root, order-top}

-- all that pass are nodes of g's tree, and so they are in the new trees
abbrev pub AreTogether : (ℕ → Bool) → Trees → Trees → ℕ → Type 0
AreTogether q f new g = (m : ℕ) → q m ≡ true → IsNode f m × ((root_at f m ≡ root_at f g) × (root_at new m ≡ root_at new g))

module _ (f : Trees) (n p : ℕ) (tidy : IsTidy f) (node : IsNode f n) (up : parent_at f n ≡ Some p) (g : ℕ) (at : IsNode f g) (q : ℕ → Bool)
    (together : AreTogether q f (cut f n) g) where
  -- the root of g's tree is not the node that is taken out, which has a parent
  not-root : root_at f g ≢ n
  not-root e = absurd (let free = subst (λ v. parent_at f v ≡ None) e (root-free f tidy g at) in cc)

  -- g in the order of the moved tree: all that is found is there
  module _ (among : is_among g (tree_order_of f n) ≡ true) where
    top_is : root_at f n ≡ root_at f g
    top_is = sym (order-root f tidy n g among)

    n_among : is_among n (tree_order_of f (root_at f g)) ≡ true
    n_among = subst (λ r. is_among n (tree_order_of f r) ≡ true) top_is (root-among f tidy n node)

    outside-in : times (root_at f g) (tree_of n f) ≡ 0
    outside-in =
        above-outside f n (root_at f g) (tidy-apart f tidy) (node_stands f n tidy node) (λ e. not-root (sym e))
        (order-inside n (tree_of (root_at f g) f) n_among)

    rest_order : tree_of (root_at f g) (cut f n) ≡ without n (tree_of (root_at f g) f)
    rest_order =
        tree_of-place (root_at f g) n (tree_of n f) (without n f) outside-in
        ∙ tree_of-without (root_at f g) n f (tidy-apart f tidy) outside-in

    top_free : parent_at (cut f n) (root_at f g) ≡ None
    top_free = parent_at-cut f n tidy node (root_at f g) not-root ∙ root-free f tidy g at

    rest_fails : (i : ℕ) → is_among i (tree_order_of (cut f n) (root_at f g)) ≡ true → q i ≡ false
    rest_fails i i_among = false_from_ne_true (q i) (λ passes. not-root
        (sym (order-top (cut f n) (cut-tidy f n p tidy node up) (root_at f g) i top_free i_among) ∙ (together i passes).1.1
        ∙ root-cut-in f n p tidy node up g among))

    rest_empty : found_in q (without n (tree_of (root_at f g) f)) ≡ []
    rest_empty = ap (found_in q) (sym rest_order) ∙ filter-none q (tree_order_of (cut f n) (root_at f g)) rest_fails

    together-in : filter q (tree_order_of (cut f n) (root_at (cut f n) g)) ≡ filter q (tree_order_of f (root_at f g))
    together-in =
        ap (λ r. filter q (tree_order_of (cut f n) r)) (root-cut-in f n p tidy node up g among)
        ∙ ap (found_in q) (cut-tree f n p tidy node up
        ∙ tree_of-inside (root_at f g) n f (tidy-apart f tidy) (node_stands f (root_at f g) tidy (root_is_node f g tidy at))
        (order-inside n (tree_of (root_at f g) f) n_among))
        ∙ sym (found-only q n (tree_of (root_at f g) f) (tree_apart (root_at f g) f (tidy-apart f tidy)) n_among rest_empty)

  -- g is not there: the root of its tree stays
  module _ (out : is_among g (tree_order_of f n) ≡ false) where
    stays : root_at (cut f n) g ≡ root_at f g
    stays = root-cut-out f n p tidy node up g at out

    moved_fails : (i : ℕ) → is_among i (tree_order_of f n) ≡ true → q i ≡ false
    moved_fails i i_among = false_from_ne_true (q i) (λ passes. not-root (sym stays ∙ sym (together i passes).1.1 ∙ root-cut-in f n p tidy node up i i_among))

    together-out : filter q (tree_order_of (cut f n) (root_at (cut f n) g)) ≡ filter q (tree_order_of f (root_at f g))
    together-out =
        ap (λ r. filter q (tree_order_of (cut f n) r)) stays
        ∙ elim (cases_lt 0 (times (root_at f g) (tree_of n f))) [
          -- in a shadow tree within the moved tree nothing changes
          | inl low ↦ ap (found_in q) (tree_of-place-in (root_at f g) n (tree_of n f) (without n f) (not-left f n tidy node (root_at f g) low)
              ∙ sym (tree_of-inside n (root_at f g) f (tidy-apart f tidy) (node_stands f n tidy node) low))
          | inr away ↦ kept-cut q f n (root_at f g) (tidy-apart f tidy) (omega arith) (filter-none q (tree_order_of f n) moved_fails)
        ]

  pub together-cut : filter q (tree_order_of (cut f n) (root_at (cut f n) g)) ≡ filter q (tree_order_of f (root_at f g))
  together-cut = by_test (is_among g (tree_order_of f n)) together-in together-out
