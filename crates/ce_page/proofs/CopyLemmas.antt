-- What copying nodes leaves as it was.
use Rattle.std.proofs.Common.{◌≡◌, ◌≢◌, ℕ, zero, suc, ◌+◌, ◌<◌, Bool, true, false, ◌&&◌, ◌||◌, if◌then◌else◌, List, [], ◌∷◌, add-one, drop, drop-cons, get_or}
use Rattle.std.proofs.Common.{length, Some, None, refl, ap, sym, ◌∙◌, subst, arith}
use Rattle.std.specs.Prelude.{◌-◌, ◌≤◌, ◌++◌, map, reverse, slice_get}
use Rattle.std.proofs.lemmas.Grind.{common_steps}
use Rattle.std.proofs.lemmas.Bool.Decides.{nat_tests}
use Rattle.std.proofs.lemmas.List.{drop_all}
use Rattle.std.specs.Prelude.{unwrap_or}
use Rattle.ce_base.specs.declared.fault.Fault.TheVariants.{HierarchyRequestError}
use Rattle.node_trees.specs.declared.kind.NodeKind.{NodeKind}
use Rattle.node_trees.specs.Facts.{Facts, is_document, is_shadow_root, is_text}
use Rattle.node_trees.specs.Trees.{Trees}
use Rattle.node_trees.specs.Spots.{kind_at, first_of}
use Rattle.node_trees.specs.Paths.{path, connected, is_among}
use Rattle.node_trees.specs.Insertion.{may_insert, has_element_child}
use Rattle.node_trees.specs.Kinds.{IsElement, KeepsKinds}
use Rattle.node_trees.specs.Links.{IsAlone}
use Rattle.form_controls.specs.Resetting.{clone_state}
use Rattle.ce_algorithms.specs.Clone.{copy_attribute, copy_node}
use Rattle.ce_algorithms.specs.Controls.{copy_control}
use Rattle.ce_algorithms.specs.CreateLater.{create_later}
use Rattle.ce_algorithms.specs.Steps.{Step, Outcome, Goes, then_do, for_each, give, ◌>>◌}
use Rattle.ce_algorithms.specs.Page.{Page, Work, with_controls}
use Rattle.ce_page.specs.Ends.{work}
use Rattle.ce_page.specs.Copies.{copied_kind, IsFresh, OnlyChanges, OnlyMoves}
use Rattle.ce_page.proofs.ElementLemmas.{node_kept}

pub kinds_next : {f g h : Trees} → KeepsKinds f g → KeepsKinds g h → KeepsKinds f h
kinds_next {f} {g} {h} a b = let one = a.nodes in let two = b.nodes in record {
  nodes = omega (arith, one, two);
  kinds = λ n at. b.kinds n (node_kept f g a at) ∙ a.kinds n at;
}

-- a walk of which a node has changed

not_here : (m n i : ℕ) (walk : List ℕ) → slice_get walk i ≡ Some n → is_among m walk ≡ false → is_among m (n ∷ []) ≡ false
not_here m n i [] at out = let f : None ≡ Some n = at in absurd cc
not_here m n zero (k ∷ ks) at out = let e : Some k ≡ Some n = at in let same : k ≡ n = cc in grind (arith, nat_tests, same)
not_here m n (suc i) (k ∷ ks) at out = not_here m n i ks at (grind (arith, nat_tests))

pub moves_next : {f g h : Trees} (walk : List ℕ) (i n : ℕ) → slice_get walk i ≡ Some n → OnlyMoves walk f g → OnlyMoves (n ∷ []) g h → OnlyMoves walk f h
moves_next walk i n at a b = record {
  others = λ m out. b.others m (not_here m n i walk at out) ∙ a.others m out;
  kinds = kinds_next a.kinds b.kinds;
  apart = λ m out. b.apart m (a.apart m out);
}

-- changes of one node, one after another

-- what is as it was has changed nowhere
pub nothing_changes : (f : Trees) (n : ℕ) → OnlyChanges n f f
nothing_changes f n = record {
  others = λ m a b. refl;
  kinds = record { nodes = omega arith; kinds = λ m h. refl };
  alone = λ m h. h;
  apart = λ m h. h;
}

pub changes_next : {f g h : Trees} {n : ℕ} → OnlyChanges n f g → OnlyChanges n g h → OnlyChanges n f h
changes_next a b = record {
  others = λ m one two. b.others m one two ∙ a.others m one two;
  kinds = kinds_next a.kinds b.kinds;
  alone = λ m x. b.alone m (a.alone m x);
  apart = λ m out. b.apart m (a.apart m out);
}

-- a new node of which facts have changed
pub fresh_changed : {f g h : Trees} {kind : NodeKind} {n : ℕ} → IsFresh f g kind n → OnlyChanges n g h → IsFresh f h kind n
fresh_changed {f} {g} {h} {kind} {n} a b = let later = a.later in record {
  later = later;
  node = node_kept g h b.kinds a.node;
  kind_is = b.kinds.kinds n a.node ∙ a.kind_is;
  alone = b.alone n a.alone;
  others = λ m at. let high = at.high in let other : m ≢ n = (λ same. omega (arith, same, high, later)) in b.others m other other ∙ a.others m at;
  apart = λ m out. b.apart m (a.apart m out);
}

-- the list from a member on
pub from_member : {A : Type 0} (xs : List A) (i : ℕ) (a : A) → i < length xs → a ≡ get_or xs i a → drop i xs ≡ a ∷ drop (i + 1) xs
from_member xs i a lt is = rw (add-one, drop-cons xs i a) (ap (λ y. y ∷ drop (suc i) xs) (sym is))

-- a node that stands alone may be put into an element

tested : (text among top text_node document child : Bool) → text ≡ false → among ≡ false → top ≡ false → document ≡ false →
    (if text then Some HierarchyRequestError else if among then Some HierarchyRequestError else if top then Some HierarchyRequestError
    else if text_node && document then Some HierarchyRequestError else if document && child then Some HierarchyRequestError else None) ≡ None
tested text among top text_node document child a b c d = grind (arith, a, b, c, d)

pub may_append : (f : Trees) (p n : ℕ) → IsElement f p → IsAlone f n → (is_document (kind_at f n) || is_shadow_root (kind_at f n)) ≡ false → p ≢ n
    → may_insert f p n None ≡ None
may_append f p n x alone kind apart =
    tested (is_text (kind_at f p)) (is_among n (path p f)) (is_document (kind_at f n) || is_shadow_root (kind_at f n)) (is_text (kind_at f n))
    (is_document (kind_at f p)) (has_element_child f p)
    (ap is_text x.kind) (alone.apart p apart) kind (ap is_document x.kind)

-- one of a list has its turn

pub turned : {A : Type 0} (f : A → Step Work (Unit {0})) (xs : List A) (i : ℕ) (a : A) (w v : Work) (o : Outcome Work (Unit {0}))
    → drop i xs ≡ a ∷ drop (i + 1) xs → Goes tt v ≡ f a w
    → for_each (drop i xs) f w ≡ o → for_each (drop (i + 1) xs) f v ≡ o
turned f xs i a w v o e turn all =
    let split : then_do (f a w) (λ _. for_each (drop (i + 1) xs) f) ≡ o = rw e at all in
    rw (← turn) at split

-- all of a list have had their turn
pub all_turned : {A : Type 0} (f : A → Step Work (Unit {0})) (xs : List A) (i : ℕ) (w : Work) (o : Outcome Work (Unit {0}))
    → length xs ≤ i → for_each (drop i xs) f w ≡ o → Goes tt w ≡ o
all_turned f xs i w o past all = rw (drop_all i xs past) at all

-- an element was made like another one, and has got its attributes and what its control keeps
pub element_copied : (from n : ℕ) (x : Facts) (w made : Work) (before now : Page) (fuel : ℕ) → Goes n made ≡ create_later x.local x.is_value x.document w
    → Goes tt (work before fuel) ≡ for_each x.attributes (copy_attribute n) made → now ≡ with_controls (λ cs. clone_state cs before.forest from n) before
    → Goes n (work now fuel) ≡ copy_node from x true w
element_copied from n x w made before now fuel makes turns is =
    ap (λ (p : Page). Goes n (work p fuel)) is
    ∙ ap (λ (o : Outcome Work (Unit {0})). then_do o (λ _. copy_control from n >> give n)) turns
    ∙ ap (λ (o : Outcome Work ℕ). then_do o (λ m. for_each x.attributes (copy_attribute m) >> (copy_control from m >> give m))) makes

-- a node is to be copied before those that wait
pub pushed : {A : Type 0} (f : ℕ → A) (nodes : List ℕ) (left from : ℕ) (old new first : List A) → 0 < left → left ≤ length nodes
    → drop (left - 1) nodes ≡ from ∷ drop (left - 1 + 1) nodes
    → new ≡ old ++ f from ∷ [] → reverse old ≡ map f (drop left nodes) ++ reverse first
    → (left - 1 ≤ length nodes) × (reverse new ≡ map f (drop (left - 1) nodes) ++ reverse first)
pushed f nodes left from old new first some within here more waiting =
    let back : left - 1 + 1 ≡ left = omega arith in
    let rest : drop (left - 1) nodes ≡ from ∷ drop left nodes = subst (λ k. drop (left - 1) nodes ≡ from ∷ drop k nodes) back here in
    let last : reverse (old ++ f from ∷ []) ≡ f from ∷ reverse old = grind (arith, common_steps) in
    (omega arith, rw (more, rest, last, waiting) refl)

-- what stands alone, and is neither a document nor a shadow root, is not connected
pub alone_apart : (f : Trees) (n : ℕ) → IsAlone f n → (is_document (kind_at f n) || is_shadow_root (kind_at f n)) ≡ false → connected f n ≡ false
alone_apart f n alone kind =
    let root : connected f n ≡ is_document (kind_at f n) = ap (λ ms. is_document (kind_at f (unwrap_or (first_of ms) n))) alone.above in
    let no_document : is_document (kind_at f n) ≡ false = grind arith in
    root ∙ no_document

pub copied_no_document : (element : Bool) (kind : NodeKind) → kind ≡ copied_kind element → (is_document kind || is_shadow_root kind) ≡ false
copied_no_document true kind is = rw is refl
copied_no_document false kind is = rw is refl
