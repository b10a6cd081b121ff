-- Each change leaves a forest tidy.
use Rattle.std.proofs.Common.{◌≡◌, ℕ, true, false, not, ◌+◌, ◌<◌, ◌==◌, if◌then◌else◌, Option, None, ap, sym, ◌∙◌, subst, arith, inl, inr}
use Rattle.std.proofs.lemmas.Bool.Decides.{nat_tests}
use Rattle.std.proofs.lemmas.Bool.{cases_eq}
use Rattle.node_trees.specs.Facts.{Facts, is_element, is_text, is_shadow_root}
use Rattle.node_trees.specs.Trees.{Trees, single, tree_of, without, place, cut, graft, with_node, with_shadow, with_facts}
use Rattle.node_trees.specs.Nodes.{times, size, Rises, Place, AtTop, AsChild, fits, unless, misfits, surplus_at, surplus, IsNode, IsTidy}
use Rattle.node_trees.specs.Spots.{kind_at}
use Rattle.tree_laws.proofs.Sums.{tidy-apart, one_at}
use Rattle.tree_laws.proofs.Inside.{found}
use Rattle.tree_laws.proofs.AtNode.{node_stands, node_spot, facts_at-is}
use Rattle.tree_laws.proofs.CutReads.{in-tree, not-left}
use Rattle.tree_laws.proofs.Changed.{roots-with, size-with, times-with}
use Rattle.tree_laws.proofs.PutSpots.{roots-put}
use Rattle.tree_laws.proofs.ShadowReads.{roots-shadow}
use Rattle.tree_laws.proofs.Sizes.{weight-cut, weight-graft, weight-with_node, weight-with_shadow, size-cut, size-graft, size-with_node, size-with_shadow}
use Rattle.tree_laws.proofs.Sizes.{new-absent}
use Rattle.tree_laws.proofs.Rising.{rises-same, rises-without, rises-place, rises-new}
use Rattle.tree_laws.proofs.Fitting.{only_at, only-there, misfits-join, misfits-place, misfits-without, misfits-tree_of}
use Rattle.tree_laws.proofs.Surplus.{KeepsKind, surplus-with}
use Rattle.tree_laws.proofs.FittingPut.{text_is, no_element, misfits-put, misfits-shadow, misfits-with}
use Rattle.node_trees.proofs.Weights.{weight-without}

-- as many nodes, with the same numbers
tidy-still : (f g : Trees) → IsTidy f → size g ≡ size f → ((i : ℕ) → times i g ≡ times i f) → Rises 0 g → misfits AtTop g ≡ 0 → surplus g ≡ surplus f → IsTidy g
tidy-still f g tidy same_size same_times rises kinds parts = record {
  once = λ i node. same_times i ∙ tidy.once i (record { low = node.low; high = omega (arith, node.high) });
  only = λ i pos.
      let node = tidy.only i (omega (arith, same_times i)) in
      record { low = node.low; high = omega (arith, node.high) };
  rises = rises;
  kinds = kinds;
  parts = parts ∙ tidy.parts;
}

-- one more, with the next number
tidy-more : (f g : Trees) → IsTidy f → size g ≡ size f + 1 → ((i : ℕ) → times i g ≡ times i f + (if size f + 1 == i then 1 else 0)) → Rises 0 g
    → misfits AtTop g ≡ 0 → surplus g ≡ 0 → IsTidy g
tidy-more f g tidy more_size more_times rises kinds parts = record {
  once = λ i node. elim (cases_eq (size f + 1) i) [
    | inl e ↦
        let gone : times i f ≡ 0 = subst (λ v. times v f ≡ 0) e (new-absent f tidy) in
        let more = more_times i in
        grind (arith, nat_tests)
    | inr ne ↦
        let old = tidy.once i (record { low = node.low; high = omega (arith, node.high) }) in
        let more = more_times i in
        grind (arith, nat_tests)
  ];
  only = λ i pos. elim (cases_eq (size f + 1) i) [
    | inl e ↦ record { low = omega arith; high = omega arith }
    | inr ne ↦
        let more = more_times i in
        let old : 0 < times i f = grind (arith, nat_tests) in
        let node = tidy.only i old in
        record { low = node.low; high = omega (arith, node.high) }
  ];
  rises = rises;
  kinds = kinds;
  parts = parts;
}

pub tidy-with : (f : Trees) (n : ℕ) (c : Facts → Facts) → IsNode f n → KeepsKind f n c → IsTidy f → IsTidy (with_facts n c f)
tidy-with f n c node keeps tidy =
    tidy-still f (with_facts n c f) tidy (size-with n c f) (λ i. times-with n c i f) (rises-same 0 f (with_facts n c f) (sym (roots-with n c f)) tidy.rises)
    (misfits-with n c keeps.kind AtTop f ∙ tidy.kinds) (surplus-with f n c tidy node keeps ∙ sym tidy.parts)

-- ---- the node taken out of its place

module _ (f : Trees) (n : ℕ) (tidy : IsTidy f) (node : IsNode f n) where
  -- the rest, which n is not among
  n-left : times n (without n f) ≡ 0
  n-left = not-left f n tidy node n (in-tree f n tidy node)

  rest-fits : misfits AtTop (without n f) ≡ 0
  rest-fits = omega (arith, misfits-without AtTop n f, tidy.kinds)

  tree-fits : (at : Place) → fits at (kind_at f n) ≡ true → misfits at (tree_of n f) ≡ 0
  tree-fits at h =
      let st = node_spot f n tidy node in
      misfits-tree_of AtTop at None None n f st.row (tidy-apart f tidy) (node_stands f n tidy node) tidy.kinds st.is
      ∙ ap (λ (x : Facts). unless (fits at x.kind)) (sym (facts_at-is f n st.row st.is)) ∙ ap unless h

  -- a shadow root stays with its host
  pub tidy-cut : is_shadow_root (kind_at f n) ≡ false → IsTidy (cut f n)
  tidy-cut h =
      let it = found None None n f (tidy-apart f tidy) (node_stands f n tidy node) in
      let rising : Rises 0 (place n (tree_of n f) (without n f)) =
      subst (λ t. Rises 0 (place n t (without n f))) (sym it.tree_is)
      (rises-place 0 n it.facts it.shadow it.children (without n f) node.low n-left (rises-without 0 n f tidy.rises)) in
      tidy-still f (cut f n) tidy (size-cut f n tidy) (λ i. weight-cut (one_at i) f n tidy) rising
      (misfits-place AtTop n (tree_of n f) (without n f) ∙ omega (arith, rest-fits, tree-fits AtTop (ap not h))) (weight-cut (λ m x. surplus_at x) f n tidy)

  -- an element or a text put among the children of a node that is no text
  pub tidy-graft : (p : ℕ) (b : Option ℕ) → IsNode f p → times p (tree_of n f) ≡ 0 → is_text (kind_at f p) ≡ false → fits AsChild (kind_at f n) ≡ true
      → IsTidy (graft f p n b)
  tidy-graft p b node_p outside h fit =
      let st = node_spot f p tidy node_p in
      let all = only-there p text_is None None f st.row (tidy-apart f tidy) (node_stands f p tidy node_p) st.is in
      let none_in = weight-without (only_at p text_is) n f (tidy-apart f tidy n) in
      let no_text : text_is st.row.facts ≡ 0 = ap text_is (sym (facts_at-is f p st.row st.is)) ∙ ap (λ v. unless (not v)) h in
      tidy-still f (graft f p n b) tidy (size-graft f p n b tidy node_p outside) (λ i. weight-graft (one_at i) f p n b tidy node_p outside)
      (rises-same 0 (without n f) (graft f p n b) (sym (roots-put p b (tree_of n f) (without n f))) (rises-without 0 n f tidy.rises))
      (misfits-put AtTop p b (tree_of n f) (without n f) rest-fits (tree-fits AsChild fit) (omega (arith, all, none_in, no_text)))
      (weight-graft (λ m x. surplus_at x) f p n b tidy node_p outside)

-- ---- one node more

pub tidy-with_node : (f : Trees) (x : Facts) → IsTidy f → is_shadow_root x.kind ≡ false → surplus_at x ≡ 0 → IsTidy (with_node (size f + 1) x f)
tidy-with_node f x tidy h own =
    tidy-more f (with_node (size f + 1) x f) tidy (size-with_node (size f + 1) x f) (λ i. weight-with_node (one_at i) (size f + 1) x f)
    (rises-new 0 (size f + 1) x f (omega arith) (λ i pos. let node = tidy.only i pos in omega (arith, node.high)) tidy.rises)
    (misfits-join AtTop f (single (size f + 1) x) ∙ omega (arith, tidy.kinds, ap (λ v. unless (not v)) h))
    (weight-with_node (λ m y. surplus_at y) (size f + 1) x f ∙ omega (arith, tidy.parts, own))

pub tidy-with_shadow : (f : Trees) (q : ℕ) (x : Facts) → IsTidy f → IsNode f q → is_element (kind_at f q) ≡ true → is_shadow_root x.kind ≡ true
    → surplus_at x ≡ 0 → IsTidy (with_shadow q (single (size f + 1) x) f)
tidy-with_shadow f q x tidy node h fit own =
    let st = node_spot f q tidy node in
    let all = only-there q no_element None None f st.row (tidy-apart f tidy) (node_stands f q tidy node) st.is in
    let element : no_element st.row.facts ≡ 0 = ap no_element (sym (facts_at-is f q st.row st.is)) ∙ ap unless h in
    tidy-more f (with_shadow q (single (size f + 1) x) f) tidy (size-with_shadow q (size f + 1) x f tidy node)
    (λ i. omega (arith, weight-with_shadow (one_at i) q (single (size f + 1) x) f (tidy.once q node)))
    (rises-same 0 f (with_shadow q (single (size f + 1) x) f) (sym (roots-shadow q (single (size f + 1) x) f)) tidy.rises)
    (misfits-shadow AtTop q (single (size f + 1) x) f tidy.kinds (omega (arith, ap unless fit)) (all ∙ element))
    (weight-with_shadow (λ m y. surplus_at y) q (single (size f + 1) x) f (tidy.once q node) ∙ omega (arith, tidy.parts, own))
