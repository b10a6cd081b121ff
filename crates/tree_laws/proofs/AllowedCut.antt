-- An allowed insertion stays allowed when the node was taken out first.
use Rattle.std.proofs.Common.{◌≡◌, ◌≢◌, ℕ, true, false, Option, Some, None, refl, ap, sym, ◌∙◌, arith}
use Rattle.std.specs.List.{list_any}
use Rattle.std.proofs.lemmas.Bool.Decides.{nat_tests}
use Rattle.node_trees.specs.Facts.{is_element}
use Rattle.node_trees.specs.Trees.{Trees, tree_of, cut, is_number}
use Rattle.node_trees.specs.Nodes.{times, IsNode, IsTidy}
use Rattle.node_trees.specs.Insertion.{may_insert, is_child_or_none, has_element_child}
use Rattle.node_trees.specs.Paths.{is_among}
use Rattle.node_trees.specs.Spots.{kind_at, parent_at, children_at, next_sibling_at, next_among, after}
use Rattle.tree_laws.proofs.Walked.{stands-outside}
use Rattle.tree_laws.proofs.Lists.{lacking, any-same, any-lacking}
use Rattle.tree_laws.proofs.CutReads.{parent_at-cut, kind_at-cut, path-cut-outside, children_at-cut-outside}
use Rattle.tree_laws.proofs.Children.{child-parent, children_at-apart, after-among}
use Rattle.tree_laws.proofs.Onward.{after-other}
use Rattle.tree_laws.proofs.Parents.{number-is}
use Rattle.node_trees.proofs.Allowed.{not_inside}
use Rattle.tree_laws.proofs.Allowed.{is_sibling, may_insert-still}

module _ (f : Trees) (p n : ℕ) (b : Option ℕ) (tidy : IsTidy f) (node : IsNode f n) (may : may_insert f p n b ≡ None) where
  -- the parent is not in the node's tree
  pub parent-outside : times p (tree_of n f) ≡ 0
  parent-outside = stands-outside f n p tidy (not_inside f p n b may)

  no-more : has_element_child f p ≡ false → has_element_child (cut f n) p ≡ false
  no-more h =
      ap (list_any (λ c. is_element (kind_at (cut f n) c))) (children_at-cut-outside f n tidy node p parent-outside)
      ∙ any-same (λ c. is_element (kind_at (cut f n) c)) (λ c. is_element (kind_at f c)) (λ c. ap is_element (kind_at-cut f n tidy node c))
      (lacking n (children_at f p))
      ∙ any-lacking (λ c. is_element (kind_at f c)) n (children_at f p) h

  -- before any child that is there
  pub may_insert-cut-before : (a : Option ℕ) → is_child_or_none (cut f n) p a ≡ true → may_insert (cut f n) p n a ≡ None
  may_insert-cut-before a child =
      may_insert-still f (cut f n) p n b a may (kind_at-cut f n tidy node p) (kind_at-cut f n tidy node n)
      (ap (is_among n) (path-cut-outside f n tidy node p parent-outside)) child no-more

  -- before the same child, which is not the node
  pub may_insert-cut : b ≢ Some n → may_insert (cut f n) p n b ≡ None
  may_insert-cut ne = may_insert-cut-before b (still b ne (is_sibling f p n b may))
    where
      still : (c : Option ℕ) → c ≢ Some n → is_child_or_none f p c ≡ true → is_child_or_none (cut f n) p c ≡ true
      still None ne h = refl
      still (Some c) ne h = ap (λ v. is_number v p) (parent_at-cut f n tidy node c (λ e. ne (ap Some e))) ∙ h

number-same : (p : ℕ) → is_number (Some p) p ≡ true
number-same p = grind (arith, nat_tests)

-- before the node's next sibling, where it was to go before itself
pub may_insert-cut-itself : (f : Trees) (p n : ℕ) → IsTidy f → IsNode f p → IsNode f n → may_insert f p n (Some n) ≡ None
    → may_insert (cut f n) p n (next_sibling_at f n) ≡ None
may_insert-cut-itself f p n tidy node_p node may =
    let up : parent_at f n ≡ Some p = number-is (parent_at f n) p (is_sibling f p n (Some n) may) in
    let next : next_sibling_at f n ≡ after n (children_at f p) = ap (next_among f n) up in
    may_insert-cut-before f p n (Some n) tidy node may (next_sibling_at f n) (there (next_sibling_at f n) (sym next))
  where
    there : (a : Option ℕ) → after n (children_at f p) ≡ a → is_child_or_none (cut f n) p a ≡ true
    there None e = refl
    there (Some d) e =
        let up = child-parent f p tidy node_p d (after-among n d (children_at f p) e) in
        let other = after-other n d (children_at f p) (children_at-apart f p tidy node_p) e in
        let same = parent_at-cut f n tidy node d other ∙ up in
        ap (λ v. is_number v p) same ∙ number-same p
