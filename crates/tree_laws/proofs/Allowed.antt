-- What an allowed insertion is, test by test.
use Rattle.std.proofs.Common.{◌≡◌, ℕ, Bool, true, false, ◌&&◌, ◌||◌, if◌then◌else◌, Option, Some, None, refl, ap, ◌∙◌, arith}
use Rattle.std.specs.Prelude.{not}
use Rattle.std.specs.List.{list_any}
use Rattle.ce_base.specs.declared.fault.Fault.{Fault}
use Rattle.ce_base.specs.declared.fault.Fault.TheVariants.{HierarchyRequestError, NotFoundError}
use Rattle.node_trees.specs.Facts.{Facts, is_document, is_element, is_text, is_shadow_root}
use Rattle.node_trees.specs.Trees.{Trees, is_number, with_facts, with_document}
use Rattle.node_trees.specs.Insertion.{may_insert, is_child_or_none, has_element_child}
use Rattle.node_trees.specs.Paths.{path, is_among}
use Rattle.node_trees.specs.Spots.{kind_at, children_at}
use Rattle.tree_laws.proofs.Lists.{any-same}
use Rattle.tree_laws.proofs.Changed.{path-with}
use Rattle.tree_laws.proofs.ChangedReads.{parent_at-with, children_at-with, kind_at-with}

-- ---- the tests as values

abbrev tested : (text_parent inside sibling top_node text_node document_parent element_child : Bool) → Option Fault
tested text_parent inside sibling top_node text_node document_parent element_child =
    if text_parent then Some HierarchyRequestError
    else if inside then Some HierarchyRequestError
    else if not sibling then Some NotFoundError
    else if top_node then Some HierarchyRequestError
    else if text_node && document_parent then Some HierarchyRequestError
    else if document_parent && element_child then Some HierarchyRequestError
    else None

is_sibling_test : (a b c d e g k : Bool) → tested a b c d e g k ≡ None → c ≡ true
is_sibling_test a b c d e g k h = grind arith

no_text_test : (a b c d e g k : Bool) → tested a b c d e g k ≡ None → a ≡ false
no_text_test a b c d e g k h = grind arith

not_top_test : (a b c d e g k : Bool) → tested a b c d e g k ≡ None → d ≡ false
not_top_test a b c d e g k h = grind arith

module _ (f : Trees) (p n : ℕ) (b : Option ℕ) (may : may_insert f p n b ≡ None) where
  pub no_text : is_text (kind_at f p) ≡ false
  no_text = no_text_test (is_text (kind_at f p)) (is_among n (path p f)) (is_child_or_none f p b) (is_document (kind_at f n) || is_shadow_root (kind_at f n))
      (is_text (kind_at f n)) (is_document (kind_at f p)) (has_element_child f p) may

  pub not_top : (is_document (kind_at f n) || is_shadow_root (kind_at f n)) ≡ false
  not_top = not_top_test (is_text (kind_at f p)) (is_among n (path p f)) (is_child_or_none f p b) (is_document (kind_at f n) || is_shadow_root (kind_at f n))
      (is_text (kind_at f n)) (is_document (kind_at f p)) (has_element_child f p) may

  pub is_sibling : is_child_or_none f p b ≡ true
  is_sibling = is_sibling_test (is_text (kind_at f p)) (is_among n (path p f)) (is_child_or_none f p b)
      (is_document (kind_at f n) || is_shadow_root (kind_at f n)) (is_text (kind_at f n)) (is_document (kind_at f p)) (has_element_child f p) may

-- a sibling may be another, and an element child may be gone
weaker : (a b c c' d e g k k' : Bool) → tested a b c d e g k ≡ None → c' ≡ true → (k ≡ false → k' ≡ false) → tested a b c' d e g k' ≡ None
weaker a b c c' d e g true k' h s w = grind arith
weaker a b c c' d e g false k' h s w = let gone = w refl in grind (arith, gone)

same_tests : (a a' b b' c c' d d' e e' g g' k k' : Bool) → a ≡ a' → b ≡ b' → c ≡ c' → d ≡ d' → e ≡ e' → g ≡ g' → k ≡ k'
    → tested a b c d e g k ≡ tested a' b' c' d' e' g' k'
same_tests a a' b b' c c' d d' e e' g g' k k' ea eb ec ed ee eg ek = cc

-- other trees where the tests say the same, but for another sibling and for an element child that may be gone
pub may_insert-still : (f g : Trees) (p n : ℕ) (b a : Option ℕ) → may_insert f p n b ≡ None → kind_at g p ≡ kind_at f p → kind_at g n ≡ kind_at f n
    → is_among n (path p g) ≡ is_among n (path p f)
    → is_child_or_none g p a ≡ true → (has_element_child f p ≡ false → has_element_child g p ≡ false) → may_insert g p n a ≡ None
may_insert-still f g p n b a may of_p of_n among child fewer =
    same_tests _ _ _ _ (is_child_or_none g p a) (is_child_or_none g p a) _ _ _ _ _ _ (has_element_child g p) (has_element_child g p)
    (ap is_text of_p) among refl (ap (λ v. is_document v || is_shadow_root v) of_n) (ap is_text of_n) (ap is_document of_p) refl
    ∙ weaker (is_text (kind_at f p)) (is_among n (path p f)) (is_child_or_none f p b) (is_child_or_none g p a)
    (is_document (kind_at f n) || is_shadow_root (kind_at f n))
    (is_text (kind_at f n)) (is_document (kind_at f p)) (has_element_child f p) (has_element_child g p) may child fewer

-- ---- a change of a node's facts that keeps its kind says nothing of where nodes may stand

module _ (m : ℕ) (c : Facts → Facts) (keeps : (x : Facts) → (c x).kind ≡ x.kind) (f : Trees) where
  kind-same : (i : ℕ) → kind_at (with_facts m c f) i ≡ kind_at f i
  kind-same = kind_at-with m c f keeps

  child-same : (p : ℕ) (b : Option ℕ) → is_child_or_none (with_facts m c f) p b ≡ is_child_or_none f p b
  child-same p None = refl
  child-same p (Some b) = ap (λ v. is_number v p) (parent_at-with m c f b)

  element-same : (p : ℕ) → has_element_child (with_facts m c f) p ≡ has_element_child f p
  element-same p =
      ap (list_any (λ i. is_element (kind_at (with_facts m c f) i))) (children_at-with m c f p)
      ∙ any-same (λ i. is_element (kind_at (with_facts m c f) i)) (λ i. is_element (kind_at f i)) (λ i. ap is_element (kind-same i)) (children_at f p)

  pub may_insert-with : (p n : ℕ) (b : Option ℕ) → may_insert (with_facts m c f) p n b ≡ may_insert f p n b
  may_insert-with p n b =
      same_tests _ _ _ _ _ _ _ _ _ _ _ _ _ _
      (ap is_text (kind-same p))
      (ap (is_among n) (path-with m c p f))
      (child-same p b)
      (ap (λ v. is_document v || is_shadow_root v) (kind-same n))
      (ap is_text (kind-same n))
      (ap is_document (kind-same p))
      (element-same p)

pub may_insert-with_document : (m d : ℕ) (f : Trees) (p n : ℕ) (b : Option ℕ) → may_insert (with_document m d f) p n b ≡ may_insert f p n b
may_insert-with_document m d f = may_insert-with m (λ x. record x { document = d }) (λ x. refl) f
