-- New rows of elements, and what is set on them.
use Rattle.std.proofs.Common.{◌≡◌, ℕ, zero, suc, ◌-◌, true, false, List, [], ◌∷◌, ◌++◌, length-append, Option, Some, None, refl, sym, ap, ◌∙◌, subst, arith}
use Rattle.std.specs.Prelude.{slice_get}
use Rattle.std.specs.Option.{option_and_then}
use Rattle.std.proofs.lemmas.Bool.{both_ways}
use Rattle.node_trees.specs.Trees.{Trees}
use Rattle.ce_events.specs.declared.event.Event.{Event}
use Rattle.ce_algorithms.specs.Page.{Page, Element, element_of, or_uncustomized, uncustomized, state_of, definition_of, with_element}
use Rattle.rule_tokens.specs.declared.callback.CallOrUpgrade.{CallOrUpgrade}
use Rattle.rule_tokens.specs.declared.callback.CallOrUpgrade.TheVariants.{Call, Upgrade as IsUpgrade}
use Rattle.ce_registry.specs.declared.definition.Definition.{Definition}
use Rattle.ce_algorithms.specs.Define.{with_defined}
use Rattle.ce_algorithms.specs.Making.{with_new}
use Rattle.ce_algorithms.specs.Upgrade.{is_upgradable}
use Rattle.order_law.specs.Reads.{is_one_of}
use Rattle.order_law.proofs.Model.Invariant.{Hold, InSteps, InDrain, InReaction, InUpgrade, InHand, Known, fits, Ongoing, Holds}
use Rattle.order_law.proofs.Model.Upgrades.{says_row, only_upgrades}
use Rattle.order_law.proofs.Model.Each.{each_map}

-- a new row reads as one that is not there
same_row : (rows : List Element) (i : ℕ) → or_uncustomized (slice_get (rows ++ uncustomized ∷ []) i) ≡ or_uncustomized (slice_get rows i)
same_row [] zero = refl
same_row [] (suc i) = refl
same_row (x ∷ rows) zero = refl
same_row (x ∷ rows) (suc i) = same_row rows i

pub new_same : (f : Trees) (p : Page) (n : ℕ) → element_of (with_new f p) n ≡ element_of p n
new_same f p n = same_row p.elements (n - 1)

more : (rows : List Element) (n : ℕ) → Known rows n → Known (rows ++ uncustomized ∷ []) n
more rows n k = let l = length-append rows (uncustomized ∷ []) in record { low = k.low; high = omega (arith, k.high, l) }

ongoing_more : (ups : List ℕ) (rows : List Element) (h : List Hold) → Ongoing ups rows h → Ongoing ups (rows ++ uncustomized ∷ []) h
ongoing_more ups rows [] o = tt
ongoing_more ups rows (InSteps q ∷ h) o = ongoing_more ups rows h o
ongoing_more ups rows (InDrain q ns ∷ h) o = ongoing_more ups rows h o
ongoing_more ups rows (InReaction w called ∷ h) o = (more rows w.element o.0, ongoing_more ups rows h o.1)
ongoing_more ups rows (InUpgrade m ∷ h) o = (more rows m o.0, o.1, ongoing_more ups rows h o.2)
ongoing_more ups rows (InHand m ∷ h) o =
    (let l = length-append rows (uncustomized ∷ []) in record { low = o.0.low; high = omega (arith, o.0.high, l) }, ongoing_more ups rows h o.1)

-- a node more
pub new_holds : (f : Trees) (h : List Hold) (l : List Event) (p : Page) → Holds h l p → Holds h l (with_new f p)
new_holds f h l p k = record {
  book = k.book;
  reads = k.reads;
  over = k.over;
  dropping = k.dropping;
  queues = k.queues;
  elements = let e = k.elements in record {
    known = each_map (λ w. Known p.elements w.element) (λ w. Known (p.elements ++ uncustomized ∷ []) w.element) k.book.waiting
        (λ w x. more p.elements w.element x) e.known;
    defined = each_map (λ w. fits w.what (definition_of p w.element) ≡ true) (λ w. fits w.what (definition_of (with_new f p) w.element) ≡ true) k.book.waiting
        (λ w x. ap (λ (r : Element). fits w.what (option_and_then (slice_get p.definitions) r.definition)) (new_same f p w.element) ∙ x) e.defined;
    unset = λ n. subst (λ (r : Element). is_upgradable r.state ≡ true → r.definition ≡ None) (sym (new_same f p n)) (e.unset n);
    upgraded = λ n. subst (λ (r : Element). is_one_of n k.book.upgraded ≡ true → is_upgradable r.state ≡ false) (sym (new_same f p n)) (e.upgraded n);
    thrown = λ n. subst (λ (r : Element). is_one_of n k.book.thrown ≡ true → (is_upgradable r.state ≡ false) × (r.definition ≡ None)) (sym (new_same f p n))
        (e.thrown n);
    document = ap (λ (r : Element). r.definition) (new_same f p 1) ∙ e.document;
    ongoing = ongoing_more k.book.upgraded p.elements h e.ongoing;
  };
}

-- a row that can be upgraded is set: a new element's, in any state
pub fresh_holds : (n : ℕ) (e : Element) (h : List Hold) (l : List Event) (p : Page) → Known p.elements n → is_upgradable (state_of p n) ≡ true →
    (is_upgradable e.state ≡ true → e.definition ≡ None) → Holds h l p → Holds h l (with_element n e p)
fresh_holds n e h l p known may unset k = record {
  book = k.book;
  reads = k.reads;
  over = k.over;
  dropping = k.dropping;
  queues = k.queues;
  elements = says_row k.book h p n e known (record {
    defined = only_upgrades p n e.definition k.book.waiting (k.elements.unset n may) k.elements.defined;
    unset = unset;
    upgraded = λ m. absurd (both_ways (is_upgradable (state_of p n)) (k.elements.upgraded n m) may);
    thrown = λ m. absurd (both_ways (is_upgradable (state_of p n)) (k.elements.thrown n m).0 may);
  }) k.elements;
}

-- a row keeps its definition, and gets a state that can't be upgraded: an upgrade that failed
pub failed_holds : (n : ℕ) (e : Element) (h : List Hold) (l : List Event) (p : Page) → Known p.elements n → is_upgradable e.state ≡ false →
    e.definition ≡ (element_of p n).definition → Holds h l p → Holds h l (with_element n e p)
failed_holds n e h l p known not_again same k = record {
  book = k.book;
  reads = k.reads;
  over = k.over;
  dropping = k.dropping;
  queues = k.queues;
  elements = says_row k.book h p n e known (record {
    defined = each_map (λ w. fits w.what (definition_of p w.element) ≡ true) (λ w. w.element ≡ n
        → fits w.what (option_and_then (slice_get p.definitions) e.definition) ≡ true) k.book.waiting
        (λ w f is. ap (λ d. fits w.what (option_and_then (slice_get p.definitions) d)) same ∙ sym (ap (λ m. fits w.what (definition_of p m)) is)
        ∙ f) k.elements.defined;
    unset = λ x. absurd (both_ways (is_upgradable e.state) not_again x);
    upgraded = λ _. not_again;
    thrown = λ m. (not_again, same ∙ (k.elements.thrown n m).1);
  }) k.elements;
}

-- a definition more: what was defined still is
fits_more : (k : CallOrUpgrade) (d : Definition) (ds : List Definition) (o : Option ℕ) → fits k (option_and_then (slice_get ds) o) ≡ true →
    fits k (option_and_then (slice_get (ds ++ d ∷ [])) o) ≡ true
fits_more IsUpgrade d ds o f = refl
fits_more (Call name) d ds None f = f
fits_more (Call name) d ds (Some i) f = go ds i f
  where
    go : (ds : List Definition) (i : ℕ) → fits (Call name) (slice_get ds i) ≡ true → fits (Call name) (slice_get (ds ++ d ∷ []) i) ≡ true
    go [] i f = absurd (let x : false ≡ true = f in cc)
    go (x ∷ ds) zero f = f
    go (x ∷ ds) (suc i) f = go ds i f

pub defined_holds : (d : Definition) (h : List Hold) (l : List Event) (p : Page) → Holds h l p → Holds h l (with_defined d p)
defined_holds d h l p k = record {
  book = k.book;
  reads = k.reads;
  over = k.over;
  dropping = k.dropping;
  queues = k.queues;
  elements = let e = k.elements in record {
    known = e.known;
    defined = each_map (λ w. fits w.what (definition_of p w.element) ≡ true)
        (λ w. fits w.what (definition_of (with_defined d p) w.element) ≡ true) k.book.waiting
        (λ w x. fits_more w.what d p.definitions (element_of p w.element).definition x) e.defined;
    unset = e.unset;
    upgraded = e.upgraded;
    thrown = e.thrown;
    document = e.document;
    ongoing = e.ongoing;
  };
}
