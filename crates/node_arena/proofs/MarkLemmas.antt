-- Notes of whether nodes are connected, through what the calls do to the trees.
use Rattle.std.proofs.Common.{◌≡◌, ◌≢◌, ℕ, ◌<◌, ◌+◌, Bool, true, false, List, [], ◌∷◌, ◌++◌, Some, ap, sym, ◌∙◌, subst, arith, inl, inr, refl}
use Rattle.std.specs.Prelude.{◌||◌}
use Rattle.std.proofs.lemmas.Bool.{cases_eq}
use Rattle.std.proofs.lemmas.Bool.Decides.{nat_tests}
use Rattle.node_trees.specs.Facts.{Facts, is_document}
use Rattle.node_trees.specs.Spots.{kind_at}
use Rattle.node_trees.specs.Trees.{Trees, with_facts, tree_of, single}
use Rattle.node_trees.specs.Nodes.{size, times, IsNode, IsTidy}
use Rattle.node_trees.specs.Orders.{order_of}
use Rattle.node_trees.specs.Paths.{path, connected, is_among}
use Rattle.node_trees.proofs.Absent.{is_among-append}
use Rattle.tree_laws.specs.Walks.{IsUp}
use Rattle.tree_laws.proofs.AtNode.{node_stands}
use Rattle.tree_laws.proofs.Changed.{size-with}
use Rattle.tree_laws.proofs.Connected.{IsMoved, was_node, connected-outside, connected-inside, connected-with}
use Rattle.tree_laws.proofs.ConnectedBelow.{same_first, connected-below}
use Rattle.tree_laws.proofs.Counts.{count-among}
use Rattle.tree_laws.proofs.Pieces.{path-long}
use Rattle.tree_laws.proofs.WayUp.{first_above}
use Rattle.tree_laws.proofs.Walked.{walked, count-order}
use Rattle.node_arena.specs.Marks.{mark_at, Allows, MarksHold, SaysLess, AreNoted}
use Rattle.node_arena.specs.declared.marks.Mark.{Mark}

-- one step up
pub connected-up : (f : Trees) (m q : ℕ) → IsTidy f → IsNode f m → IsUp f m (Some q) → connected f m ≡ connected f q
connected-up f m q tidy at up =
    ap (λ v. is_document (kind_at f v)) (same_first (path m f) (path q f) m q (path-long m f (node_stands f m tidy at)) (first_above f m q tidy up))

-- ---- the loop that notes

-- those listed are noted, and of the others nothing more is
pub record AreMarked (out : List ℕ) (is : Bool) (old new : List Mark) : Type 0 where
  pub below : (m : ℕ) → is_among m out ≡ true → 0 < m → Allows (mark_at new m) is
  pub others : (m : ℕ) → is_among m out ≡ false → 0 < m → SaysLess old new m

pub none_marked : (is : Bool) (marks : List Mark) → AreMarked [] is marks marks
none_marked is marks = record { below = λ m e pos. absurd cc; others = λ m e pos it says. says }

pub one_marked : (out : List ℕ) (at : ℕ) (is : Bool) (old mid new : List Mark) → AreMarked out is old mid → Allows (mark_at new at) is
    → ((m : ℕ) → 0 < m → m ≢ at → SaysLess mid new m) → AreMarked (out ++ at ∷ []) is old new
one_marked out at is old mid new before here others = record {
  below = λ m e pos. elim (cases_eq m at) [
    | inl one ↦ subst (λ v. Allows (mark_at new v) is) (sym one) here
    | inr ne ↦ let parts = is_among-append m out (at ∷ []) in others m pos ne is (before.below m (grind (arith, nat_tests)) pos)
  ];
  others = λ m e pos it says.
      let parts = is_among-append m out (at ∷ []) in
      let ne : m ≢ at = λ one. grind (arith, nat_tests) in
      others m pos ne it (before.others m (grind (arith, nat_tests)) pos it says);
}

pub all_marked : (f : Trees) (n : ℕ) (out : List ℕ) (is : Bool) (old new : List Mark) → out ≡ order_of f n → AreMarked out is old new → AreNoted f n is old new
all_marked f n out is old new e marked = record {
  below = λ m among. marked.below m (ap (is_among m) e ∙ among);
  others = λ m off. marked.others m (ap (is_among m) e ∙ off);
}

-- ---- what the calls do

pub hold_same : (marks : List Mark) (f g : Trees) → g ≡ f → MarksHold marks f → MarksHold marks g
hold_same marks f g e = subst (MarksHold marks) (sym e)

-- facts of a node that are changed, but for its kind
pub hold_with : (marks : List Mark) (n : ℕ) (c : Facts → Facts) (f g : Trees) → ((x : Facts) → (c x).kind ≡ x.kind) → g ≡ with_facts n c f → MarksHold marks f
    → MarksHold marks g
hold_with marks n c f g keeps e hold = hold_same marks (with_facts n c f) g e (λ m at.
    let low = at.low in
    let high = at.high in
    let same : size (with_facts n c f) ≡ size f = size-with n c f in
    subst (Allows (mark_at marks m)) (sym (connected-with n c f keeps m)) (hold m (record { low = low; high = omega (arith, high, same) })))

module _ (f g : Trees) (n : ℕ) (moved : IsMoved f g n) where
  in_order : (m : ℕ) → is_among m (order_of g n) ≡ is_among n (path m g)
  in_order m = walked g n m moved.tidy_now

  connected-here : IsNode g n → (m : ℕ) → is_among n (path m g) ≡ true → connected g m ≡ connected g n
  connected-here node m on = connected-below g n moved.tidy_now node m (among-inside m (in_order m ∙ on))
    where
      among-inside : (m : ℕ) → is_among m (order_of g n) ≡ true → 0 < times m (tree_of n g)
      among-inside m e = let low = count-among m (order_of g n) e in let count = count-order m (tree_of n g) in omega (arith, low, count)

  -- a node that is not connected where it stood and where it stands
  pub hold_stays : IsNode g n → (marks : List Mark) → connected f n ≡ false → connected g n ≡ false → MarksHold marks f → MarksHold marks g
  hold_stays node marks was is hold m at = by_path (is_among n (path m g)) refl
    where
      by_path : (b : Bool) → is_among n (path m g) ≡ b → Allows (mark_at marks m) (connected g m)
      by_path false off = subst (Allows (mark_at marks m)) (connected-outside f g n moved m at off) (hold m (was_node f g n moved m at))
      by_path true on = subst (Allows (mark_at marks m)) (connected-inside f g n moved m at on ∙ was ∙ sym is ∙ sym (connected-here node m on))
          (hold m (was_node f g n moved m at))

  -- and any other, once it is noted with all below it
  pub hold_noted : IsNode g n → (old new : List Mark) → AreNoted g n (connected g n) old new → MarksHold old f → MarksHold new g
  hold_noted node old new noted hold m at = by_path (is_among n (path m g)) refl
    where
      by_path : (b : Bool) → is_among n (path m g) ≡ b → Allows (mark_at new m) (connected g m)
      by_path false off = subst (Allows (mark_at new m)) (connected-outside f g n moved m at off)
          (noted.others m (in_order m ∙ off) at.low _ (hold m (was_node f g n moved m at)))
      by_path true on = subst (Allows (mark_at new m)) (sym (connected-here node m on)) (noted.below m (in_order m ∙ on) at.low)

  -- either way
  pub hold_moved : IsNode g n → (was is : Bool) (old new : List Mark) → was ≡ connected f n → is ≡ connected g n → ((was || is) ≡ false → new ≡ old)
      → ((was || is) ≡ true → AreNoted g n is old new) → MarksHold old f → MarksHold new g
  hold_moved node false false old new a b same noted hold = subst (λ ms. MarksHold ms g) (sym (same refl)) (hold_stays node old (sym a) (sym b) hold)
  hold_moved node true is old new a b same noted hold = hold_noted node old new (subst (λ v. AreNoted g n v old new) b (noted refl)) hold
  hold_moved node false true old new a b same noted hold = hold_noted node old new (subst (λ v. AreNoted g n v old new) b (noted refl)) hold

-- no notes
pub hold_none : (f : Trees) (marks : List Mark) → marks ≡ [] → MarksHold marks f
hold_none f marks e = rw e (λ n at. tt)

-- the note of node 1
pub hold_first : (x : Facts) (marks : List Mark) → ((is : Bool) → Allows (mark_at marks 1) is) → MarksHold marks (single 1 x)
hold_first x marks blank m at = let one : m ≡ 1 =
    omega (arith, at.low, at.high) in subst (λ v. Allows (mark_at marks v) (connected (single 1 x) v)) (sym one) (blank _)

-- trees with one more node, of which nothing is noted
pub hold_more : (f g : Trees) (old new : List Mark) → size g ≡ size f + 1 → ((m : ℕ) → IsNode f m → connected g m ≡ connected f m)
    → ((is : Bool) → Allows (mark_at new (size f + 1)) is) → ((m : ℕ) → 0 < m → SaysLess old new m) → MarksHold old f → MarksHold new g
hold_more f g old new more same blank others hold m at = elim (cases_eq m (size f + 1)) [
  | inl one ↦ subst (λ v. Allows (mark_at new v) (connected g v)) (sym one) (blank _)
  | inr ne ↦
      let low = at.low in
      let high = at.high in
      let was : IsNode f m = record { low = low; high = omega (arith, high, more, ne) } in
      subst (Allows (mark_at new m)) (sym (same m was)) (others m low _ (hold m was))
]

-- the same nodes, and notes that say no more
pub hold_less : (f : Trees) (old new : List Mark) → ((m : ℕ) → 0 < m → SaysLess old new m) → MarksHold old f → MarksHold new f
hold_less f old new others hold m at = others m at.low _ (hold m at)

-- the note of one node, made anew
pub hold_one : (f : Trees) (n : ℕ) (mark : Mark) (old new : List Mark) → ((is : Bool) → Allows (Some mark) is → Allows (mark_at new n) is)
    → ((m : ℕ) → 0 < m → m ≢ n → SaysLess old new m)
    → Allows (Some mark) (connected f n) → MarksHold old f → MarksHold new f
hold_one f n mark old new here others says hold m at = elim (cases_eq m n) [
  | inl one ↦ subst (λ v. Allows (mark_at new v) (connected f v)) (sym one) (here _ says)
  | inr ne ↦ others m at.low ne _ (hold m at)
]
