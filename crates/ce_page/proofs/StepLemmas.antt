-- Primitives that are taken apart: a change of the page, what it changes of form owners, and whom that tells.
use Rattle.std.proofs.Common.{◌≡◌, ℕ, ◌+◌, Bool, true, false, List, ◌∷◌, Option, None, Some, Result, Ok, Err, refl, ap, subst, sym, ◌∙◌, add-one}
use Rattle.std.specs.Prelude.{is_some, not, if◌then◌else◌, OnOk}
use Rattle.std.proofs.lemmas.Bool.{false≢true}
use Rattle.ce_base.specs.declared.fault.Fault.{Fault}
use Rattle.node_trees.specs.Insertion.{may_insert}
use Rattle.node_trees.specs.Orders.{order_of}
use Rattle.node_trees.specs.Paths.{is_among}
use Rattle.node_trees.specs.Spots.{attribute_at, document_at, parent_at}
use Rattle.node_trees.specs.Trees.{cut, graft, with_attribute, without_attribute}
use Rattle.reaction_queue.specs.declared.reaction.Reaction.TheVariants.{Attribute}
use Rattle.form_controls.specs.declared.change.Change.{Change}
use Rattle.ce_algorithms.specs.Attributes.{set_attribute, remove_attribute, remove_there}
use Rattle.ce_algorithms.specs.FormChanges.{form_changes, tell_form_change, tell_others}
use Rattle.ce_algorithms.specs.Mutation.{adopt, insert, inserted, is_connected_parent, pre_insert, put_in, reference_child, remove, removed}
use Rattle.ce_algorithms.specs.Page.{Page, Work, read_page, spend, with_forest}
use Rattle.ce_algorithms.specs.Steps.{Step, Outcome, Goes, done, then_do, throw_any, ◌>>=◌, ◌>>◌}
use Rattle.ce_page.specs.declared.stop.PageStop.{PageStop}
use Rattle.ce_page.specs.declared.stop.PageStop.TheVariants.{Refused, FuelSpent, NoMemory}
use Rattle.ce_page.specs.Ends.{Does, Ends, work}
use Rattle.ce_page.specs.Telling.{handled, told}

pub on_ok : {A E : Type 0} (result : Result A E) {X : Type 0} → X → OnOk result X
on_ok (Ok a) x = x
on_ok (Err e) x = tt

-- one unit of fuel was spent, and the rest of the step comes
pub spending : {A B : Type 0} (answer : A → B) (result : Result A PageStop) (last : Work) (page : Page) (old new : ℕ) (next : Step Work B) → new + 1 ≡ old
    → Ends answer result last (next (work page new)) → Ends answer result last ((spend >> next) (work page old))
spending answer result last page old new next spent h =
    subst (λ k. Ends answer result last ((spend >> next) (work page k))) (sym (add-one new) ∙ spent) h

-- the walk has gone, and the others come
pub others_come : (result : Result (Unit {0}) PageStop) (last : Work) (cs : List Change) (seen order : List ℕ) (o : Outcome Work (Unit {0})) (gone : Work)
    → Goes tt gone ≡ o → seen ≡ order → Does result last (tell_others cs seen gone) → Does result last (then_do o (λ _. tell_others cs order))
others_come result last cs seen order o gone went same h =
    subst (λ (x : Outcome Work (Unit {0})). Does result last (then_do x (λ _. tell_others cs order))) went
    (subst (λ v. Does result last (tell_others cs v gone)) same h)

-- a step has gone, and the next one does the rest
pub goes_on : (result : Result (Unit {0}) PageStop) (last gone : Work) (o : Outcome Work (Unit {0})) (next : Step Work (Unit {0})) → Goes tt gone ≡ o
    → Does result last (next gone) → Does result last (then_do o (λ _. next))
goes_on result last gone o next went h = subst (λ (x : Outcome Work (Unit {0})). Does result last (then_do x (λ _. next))) went h

-- one of whom something is said has its turn, if it stands outside; else it is passed over
module _ (order : List ℕ) (c : Change) (rest all : List Change) (w : Work) (begins : all ≡ c ∷ rest) where
  pub other_gone : (outside : Bool) (gone : Work) → outside ≡ not (is_among c.node order) → Goes tt gone ≡ (if outside then tell_form_change c else done) w
      → tell_others rest order gone ≡ tell_others all order w
  other_gone outside gone test went = subst (λ cs. tell_others rest order gone ≡ tell_others cs order w) (sym begins) (by_test outside test went)
    where
      by_test : (b : Bool) → b ≡ not (is_among c.node order) → Goes tt gone ≡ (if b then tell_form_change c else done) w
          → tell_others rest order gone ≡ tell_others (c ∷ rest) order w
      by_test true is goes = rw (← is) (ap (λ (o : Outcome Work (Unit {0})). then_do o (λ _. tell_others rest order)) goes)
      by_test false is goes = let same : gone ≡ w = cc in rw (← is) (ap (λ (v : Work). tell_others rest order v) same)

  pub other_stopped : (outside : Bool) (stop : PageStop) (last : Work) → outside ≡ not (is_among c.node order)
      → Does {A = Unit {0}} (Err stop) last ((if outside then tell_form_change c else done) w)
      → Does {A = Unit {0}} (Err stop) last (tell_others all order w)
  other_stopped outside stop last test does =
      subst (λ cs. Does {A = Unit {0}} (Err stop) last (tell_others cs order w)) (sym begins) (by_test outside test stop does)
    where
      by_test : (b : Bool) → b ≡ not (is_among c.node order) → (s : PageStop) → Does {A = Unit {0}} (Err s) last ((if b then tell_form_change c else done) w)
          → Does {A = Unit {0}} (Err s) last (tell_others (c ∷ rest) order w)
      by_test true is (Refused f) d = rw (← is) (ap (λ (o : Outcome Work (Unit {0})). then_do o (λ _. tell_others rest order)) d)
      by_test true is FuelSpent d = rw (← is) (ap (λ (o : Outcome Work (Unit {0})). then_do o (λ _. tell_others rest order)) d)
      by_test false is (Refused f) d = absurd cc
      by_test false is FuelSpent d = absurd cc
      by_test b is NoMemory d = tt

-- a node that may be put among the children of a parent is adopted, and then put in
pub pre_inserted : (result : Result (Unit {0}) PageStop) (last : Work) (old mid : Page) (parent n : ℕ) (before child : Option ℕ) (fuel after : ℕ)
    → may_insert old.forest parent n before ≡ None
    → child ≡ reference_child old.forest n before → Goes tt (work mid after) ≡ adopt (document_at old.forest parent) n (work old fuel)
    → Does result last (put_in parent n child (work mid after))
    → Does result last (pre_insert parent n before (work old fuel))
pre_inserted result last old mid parent n before child fuel after may is went h =
    let rest : Step Work (Unit {0}) = read_page (λ p. reference_child p.forest n before) >>= insert parent n in
    let there = subst (λ (b : Option ℕ). Does result last (put_in parent n b (work mid after))) is h in
    subst (λ (f : Option Fault). Does result last ((throw_any f >> rest) (work old fuel))) (sym may)
    (subst (λ (o : Outcome Work (Unit {0})). Does result last (then_do o (λ _. put_in parent n (reference_child old.forest n before)))) went there)

-- so at the end of the parent
pub appended : (result : Result (Unit {0}) PageStop) (last : Work) (old mid : Page) (parent n before after : ℕ) → may_insert old.forest parent n None ≡ None
    → Goes tt (work mid after) ≡ adopt (document_at old.forest parent) n (work old before) → Does result last (put_in parent n None (work mid after))
    → Does result last (pre_insert parent n None (work old before))
appended result last old mid parent n before after may went h = pre_inserted result last old mid parent n None None before after may refl went h

module _ (old now : Page) (fuel : ℕ) (cs : List Change) (changed : cs ≡ form_changes old now) where
  pub put_in_is : (parent node : ℕ) (before : Option ℕ) (walk : List ℕ) → now ≡ with_forest (λ f. graft f parent node before) old
      → walk ≡ order_of now.forest node
      → put_in parent node before (work old fuel) ≡ told (inserted cs) cs walk (order_of now.forest node) (work now fuel)
  put_in_is parent node before walk is order =
      ap (λ (p : Page). told (inserted (form_changes old p)) (form_changes old p) (order_of p.forest node) (order_of p.forest node) (work p fuel)) (sym is)
      ∙ ap (λ v. told (inserted v) v (order_of now.forest node) (order_of now.forest node) (work now fuel)) (sym changed)
      ∙ ap (λ v. told (inserted cs) cs v (order_of now.forest node) (work now fuel)) (sym order)

  pub remove_is : (node : ℕ) (was_connected : Bool) (walk : List ℕ) → now ≡ with_forest (λ f. cut f node) old → walk ≡ order_of now.forest node
      → was_connected ≡ is_connected_parent old (parent_at old.forest node)
      → remove node (work old fuel) ≡ told (removed cs was_connected) cs walk (order_of now.forest node) (work now fuel)
  remove_is node was_connected walk is order was =
      ap (λ (p : Page). told (removed (form_changes old p) (is_connected_parent old (parent_at old.forest node))) (form_changes old p) (order_of p.forest node)
      (order_of p.forest node) (work p fuel)) (sym is)
      ∙ ap (λ v. told (removed v (is_connected_parent old (parent_at old.forest node))) v (order_of now.forest node) (order_of now.forest node) (work now fuel))
      (sym changed)
      ∙ ap (λ v. told (removed cs (is_connected_parent old (parent_at old.forest node))) cs v (order_of now.forest node) (work now fuel)) (sym order)
      ∙ ap (λ b. told (removed cs b) cs walk (order_of now.forest node) (work now fuel)) (sym was)

  pub set_is : (n : ℕ) (name value : List ℕ) (was : Option (List ℕ)) → now ≡ with_forest (with_attribute n name value) old
      → was ≡ attribute_at old.forest n name
      → set_attribute n name value (work old fuel) ≡ handled n (Attribute name was (Some value)) cs (work now fuel)
  set_is n name value was is before =
      ap (λ (p : Page). handled n (Attribute name (attribute_at old.forest n name) (Some value)) (form_changes old p) (work p fuel)) (sym is)
      ∙ ap (λ v. handled n (Attribute name (attribute_at old.forest n name) (Some value)) v (work now fuel)) (sym changed)
      ∙ ap (λ o. handled n (Attribute name o (Some value)) cs (work now fuel)) (sym before)

  pub taken_is : (n : ℕ) (name : List ℕ) (was : Option (List ℕ)) → now ≡ with_forest (without_attribute n name) old → was ≡ attribute_at old.forest n name
      → is_some (attribute_at old.forest n name) ≡ true
      → remove_attribute n name (work old fuel) ≡ handled n (Attribute name was None) cs (work now fuel)
  taken_is n name was is before there = ap (λ o. remove_there n name o (work old fuel)) (sym before) ∙ by_value was (ap is_some before ∙ there)
    where
      by_value : (o : Option (List ℕ)) → is_some o ≡ true → remove_there n name o (work old fuel) ≡ handled n (Attribute name o None) cs (work now fuel)
      by_value None none = absurd (false≢true none)
      by_value (Some value) none =
          ap (λ (p : Page). handled n (Attribute name (Some value) None) (form_changes old p) (work p fuel)) (sym is)
          ∙ ap (λ v. handled n (Attribute name (Some value) None) v (work now fuel)) (sym changed)
