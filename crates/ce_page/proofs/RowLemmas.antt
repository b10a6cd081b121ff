-- What has a definition is an element.
use Rattle.std.proofs.Common.{◌≡◌, ◌≢◌, ℕ, zero, suc, ◌+◌, ◌-◌, ◌<◌, List, [], ◌∷◌, ◌++◌, get_or, length, Option, Some, None, IfSome, refl, ap, sym, ◌∙◌, subst}
use Rattle.std.proofs.Common.{inl, inr, arith, length-append}
use Rattle.std.specs.Prelude.{slice_get, slice_set}
use Rattle.std.proofs.lemmas.Bool.{cases_eq}
use Rattle.std.proofs.lemmas.Bool.Decides.{nat_tests}
use Rattle.std.proofs.lemmas.Option.{slice_get_read}
use Rattle.std.proofs.lemmas.List.{length-set}
use Rattle.ce_base.specs.declared.custom_state.CustomState.{CustomState}
use Rattle.node_trees.specs.declared.kind.NodeKind.TheVariants.{Document, Element as ElementKind}
use Rattle.node_trees.specs.Trees.{Trees}
use Rattle.node_trees.specs.Nodes.{size}
use Rattle.node_trees.specs.Kinds.{IsElement, KeepsKinds}
use Rattle.reaction_queue.specs.declared.reaction.Reaction.{Reaction}
use Rattle.ce_algorithms.specs.Page.{Element, Page, element_of, or_uncustomized, uncustomized}
use Rattle.ce_page.specs.Parts.{row_place}
use Rattle.ce_page.specs.Rows.{HasRows, definition_in}
use Rattle.ce_page.specs.Sound.{IsSound}
use Rattle.ce_page.proofs.ElementLemmas.{sound_kept}

-- the row before its number is a node's own, since the page's document is no element
pub at_node : {elements : List Element} {forest : Trees} (n : ℕ) → HasRows elements forest → IsElement forest (n - 1 + 1) → IsElement forest n
at_node zero h x = absurd (differ (sym x.kind ∙ h.document))
  where
    differ : ElementKind ≡ Document → ⊥
    differ e = cc
at_node {forest = forest} (suc n) h x = subst (IsElement forest) (omega arith) x

pub above : {elements : List Element} {forest : Trees} (n : ℕ) → HasRows elements forest → IsElement forest n → IsElement forest (n - 1 + 1)
above {forest = forest} n h x = let low = x.node.low in subst (IsElement forest) (omega (arith, low)) x

pub row_element : (p : Page) (n d : ℕ) → HasRows p.elements p.forest → (element_of p n).definition ≡ Some d → IsElement p.forest n
row_element p n d h is = at_node n h (h.defined (n - 1) d is)

pub row_is : (p : Page) (n : ℕ) (d : Option ℕ) → HasRows p.elements p.forest → (element_of p n).definition ≡ d → IfSome d (λ x. IsElement p.forest n)
row_is p n None h is = tt
row_is p n (Some d) h is = row_element p n d h is

pub if_any : {A : Type 0} {X : Type 0} (o : Option A) → X → IfSome o (λ _. X)
if_any None x = tt
if_any (Some a) x = x

-- the row at a place that was found

found_place : (rows n i : ℕ) → row_place rows n ≡ Some i → (i ≡ n - 1) × (i < rows)
found_place rows n i is = (grind (arith, nat_tests), grind (arith, nat_tests))

pub row_there : (elements : List Element) (n i : ℕ) (e : Element) → row_place (length elements) n ≡ Some i → e ≡ get_or elements i e
    → (i ≡ n - 1) × (or_uncustomized (slice_get elements i) ≡ e)
row_there elements n i e place read =
    let found = found_place (length elements) n i place in
    (found.0, ap or_uncustomized (slice_get_read elements (length elements) i e refl found.1 read))

pub state_given : (elements : List Element) (n i : ℕ) (e : Element) (state : CustomState) → row_place (length elements) n ≡ Some i → e ≡ get_or elements i e
    → slice_set elements i (record e { state = state }) ≡ slice_set elements (n - 1) (record (or_uncustomized (slice_get elements (n - 1))) { state = state })
state_given elements n i e state place read = let there = row_there elements n i e place read in rw (← there.0, there.1) refl

pub row_defined : {elements : List Element} {forest : Trees} (i : ℕ) (e : Element) → HasRows elements forest → or_uncustomized (slice_get elements i) ≡ e
    → IfSome e.definition (λ d. IsElement forest (i + 1))
row_defined {elements} {forest} i e h is = go e.definition refl
  where
    go : (o : Option ℕ) → e.definition ≡ o → IfSome o (λ d. IsElement forest (i + 1))
    go None f = tt
    go (Some d) f = h.defined i d (ap (λ (x : Element). x.definition) is ∙ f)

-- a row put behind the others

pub definition_in-new : (elements : List Element) (i : ℕ) → definition_in (elements ++ uncustomized ∷ []) i ≡ definition_in elements i
definition_in-new [] zero = refl
definition_in-new [] (suc i) = refl
definition_in-new (e ∷ elements) zero = refl
definition_in-new (e ∷ elements) (suc i) = definition_in-new elements i

pub sound_new : {elements : List Element} {waiting : List (List (ℕ × Reaction))} {stacks : List (List (Option ℕ))} (f g : Trees)
    → KeepsKinds f g → size g ≡ size f + 1 → IsSound elements waiting stacks f → IsSound (elements ++ uncustomized ∷ []) waiting stacks g
sound_new {elements} {waiting} {stacks} f g k more h = record { rows = rows; waits = now.waits; held = now.held }
  where
    now : IsSound elements waiting stacks g
    now = sound_kept f g k h

    rows : HasRows (elements ++ uncustomized ∷ []) g
    rows =
        let within = h.rows.within in
        let long = length-append elements (uncustomized ∷ []) in
        record {
          first = now.rows.first;
          document = now.rows.document;
          within = omega (arith, within, long, more);
          defined = λ i d is. now.rows.defined i d (sym (definition_in-new elements i) ∙ is);
        }

-- a row given anew

pub definition_in-here : (elements : List Element) (i d : ℕ) (e : Element) → definition_in (slice_set elements i e) i ≡ Some d → e.definition ≡ Some d
definition_in-here [] i d e is = let f : None ≡ Some d = is in absurd cc
definition_in-here (x ∷ elements) zero d e is = is
definition_in-here (x ∷ elements) (suc i) d e is = definition_in-here elements i d e is

pub definition_in-other : (elements : List Element) (i j : ℕ) (e : Element) → i ≢ j → definition_in (slice_set elements i e) j ≡ definition_in elements j
definition_in-other [] i j e apart = refl
definition_in-other (x ∷ elements) zero zero e apart = absurd (apart refl)
definition_in-other (x ∷ elements) zero (suc j) e apart = refl
definition_in-other (x ∷ elements) (suc i) zero e apart = refl
definition_in-other (x ∷ elements) (suc i) (suc j) e apart = definition_in-other elements i j e (λ k. apart (ap suc k))

-- it has the definition that stood there
pub definition_in-set : (elements : List Element) (i : ℕ) (e : Element) → definition_in elements i ≡ e.definition → (j : ℕ)
    → definition_in (slice_set elements i e) j ≡ definition_in elements j
definition_in-set [] i e same j = refl
definition_in-set (x ∷ elements) zero e same zero = sym same
definition_in-set (x ∷ elements) zero e same (suc j) = refl
definition_in-set (x ∷ elements) (suc i) e same zero = refl
definition_in-set (x ∷ elements) (suc i) e same (suc j) = definition_in-set elements i e same j

-- its definition, where it has one, is an element's
pub sound_set : {elements : List Element} {waiting : List (List (ℕ × Reaction))} {stacks : List (List (Option ℕ))} {forest : Trees} (i : ℕ) (e : Element)
    → IfSome e.definition (λ d. IsElement forest (i + 1)) → IsSound elements waiting stacks forest → IsSound (slice_set elements i e) waiting stacks forest
sound_set {elements} {waiting} {stacks} {forest} i e here h = record {
  rows = record {
    first = h.rows.first;
    document = h.rows.document;
    within = let within = h.rows.within in let same = length-set elements i e in omega (arith, within, same);
    defined = defined;
  };
  waits = h.waits;
  held = h.held;
}
  where
    defined : (j d : ℕ) → definition_in (slice_set elements i e) j ≡ Some d → IsElement forest (j + 1)
    defined j d is = elim (cases_eq i j) [
      | inl same ↦ subst (λ k. IsElement forest (k + 1)) same
          (if_some e.definition (definition_in-here elements i d e (subst (λ k. definition_in (slice_set elements i e) k ≡ Some d) (sym same) is)) here)
      | inr other ↦ h.rows.defined j d (sym (definition_in-other elements i j e other) ∙ is)
    ]
      where
        if_some : (o : Option ℕ) → o ≡ Some d → IfSome o (λ d. IsElement forest (i + 1)) → IsElement forest (i + 1)
        if_some None f x = absurd cc
        if_some (Some k) f x = x

-- a row given the definition that it has

pub same_row : (elements : List Element) (i : ℕ) (d : Option ℕ) → definition_in elements i ≡ d
    → slice_set elements i (record (or_uncustomized (slice_get elements i)) { definition = d }) ≡ elements
same_row [] i d is = refl
same_row (e ∷ elements) zero d is = ap (λ x. record e { definition = x } ∷ elements) (sym is)
same_row (e ∷ elements) (suc i) d is = ap (λ es. e ∷ es) (same_row elements i d is)
