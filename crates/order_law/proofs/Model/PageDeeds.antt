-- Copies, definitions, and all that operations do on the page alone, keep the law.
use Rattle.std.proofs.Common.{◌≡◌, ℕ, zero, suc, Bool, true, false, List, [], ◌∷◌, ◌++◌, length, map, Option, None, refl, sym, ap, ◌∙◌, inl, inr}
use Rattle.std.specs.Prelude.{◌||◌, not, is_some, filter, if◌then◌else◌}
use Rattle.std.specs.Str.{str_to_ascii_lowercase}
use Rattle.std.specs.List.{AllByRecursion as Each}
use Rattle.ce_base.specs.declared.fault.Fault.{Fault}
use Rattle.ce_base.specs.declared.fault.Fault.TheVariants.{NotSupportedError, HierarchyRequestError, NotFoundError, InvalidCharacterError}
use Rattle.element_names.specs.Names.{attr_name}
use Rattle.node_trees.specs.Facts.{Facts, is_document, is_element, is_shadow_root}
use Rattle.node_trees.specs.Trees.{Trees, none as no_trees, tree, tree_of, is_number}
use Rattle.node_trees.specs.Orders.{order_of}
use Rattle.node_trees.specs.Links.{below}
use Rattle.node_trees.specs.Candidates.{elements, is_candidate, candidates}
use Rattle.node_trees.specs.Spots.{facts_at, kind_at, parent_at}
use Rattle.ce_registry.specs.declared.class_facts.ClassFacts.{ClassFacts}
use Rattle.ce_registry.specs.declared.definition.Definition.{Definition}
use Rattle.ce_registry.specs.Registry.{may_define, is_value_of}
use Rattle.form_controls.specs.declared.control.Control.{Control}
use Rattle.form_controls.specs.Controls.{set_message, set_value}
use Rattle.form_controls.specs.Setting.{set_checked, set_chosen}
use Rattle.form_controls.specs.Internals as inner
use Rattle.form_controls.specs.declared.internals.Internals.{Internals}
use Rattle.form_controls.specs.Resetting.{clone_state, reset}
use Rattle.reaction_queue.specs.declared.reaction.Reaction.TheVariants.{FormReset, FormStateRestore}
use Rattle.ce_algorithms.specs.declared.deed.ControlDeed.{ControlDeed}
use Rattle.ce_algorithms.specs.declared.deed.ControlDeed.TheVariants.{Edit, Tick, Choose, SetMessage}
use Rattle.ce_algorithms.specs.declared.deed.FormDeed.{FormDeed}
use Rattle.ce_algorithms.specs.declared.deed.FormDeed.TheVariants as form_deeds
use Rattle.ce_algorithms.specs.declared.deed.InternalsDeed.{InternalsDeed}
use Rattle.ce_algorithms.specs.declared.deed.InternalsDeed.TheVariants as internals_deeds
use Rattle.ce_algorithms.specs.declared.deed.PageDeed.{PageDeed}
use Rattle.ce_algorithms.specs.declared.deed.PageDeed.TheVariants as page_deeds
use Rattle.ce_events.specs.declared.event.Event.{Event}
use Rattle.ce_algorithms.specs.declared.given.Given.TheVariants.{Nothing, Node, Ignored}
use Rattle.ce_algorithms.specs.Steps.{Step, Outcome, Goes, Throws, Spent, ◌>>=◌, ◌>>◌, refuse, when, for_each}
use Rattle.ce_algorithms.specs.Page.{Page, Work, with_controls, with_internals}
use Rattle.ce_algorithms.specs.Page as page
use Rattle.ce_algorithms.specs.State.{event_of}
use Rattle.ce_algorithms.specs.Enqueue.{enqueue_upgrade, try_upgrade}
use Rattle.ce_algorithms.specs.Forms.{controls_of, forms_of, is_custom_form_associated}
use Rattle.ce_algorithms.specs.Controls.{ignored_or, control_steps}
use Rattle.ce_algorithms.specs.Clone.{copy_node, copy_below, clone}
use Rattle.ce_algorithms.specs.Define.{new_definition, with_defined, upgrade_candidates, define_name}
use Rattle.ce_algorithms.specs.Perform.{upgrade_all, gives_nothing, gives_node, form_steps, internals_steps, page_steps}
use Rattle.ce_algorithms.specs.Reset.{reset_control, reset_form}
use Rattle.order_law.proofs.Model.Invariant.{Hold}
use Rattle.order_law.proofs.Model.Hands.{with_hands, IsHeld}
use Rattle.order_law.proofs.Model.Making.{defined_holds}
use Rattle.order_law.proofs.Model.Steps.{HoldsAt, Any, AfterAt, KeepsAt, at_seq, at_done, at_each, at_where, at_bind, at_read, callback_at, same_page}
use Rattle.order_law.proofs.Model.Giving.{none, one, given_nodes, GivesAt, give_bind_at, give_seq_at, give_at, give_throw_if_at, give_throw_where_at}
use Rattle.order_law.proofs.Model.Giving.{give_refuse_at, keeps_at}
use Rattle.order_law.proofs.Model.Primitives.{try_at, upgrade_at, remove_at, adopt_at, insert_gives, set_at, unset_at}
use Rattle.order_law.proofs.Model.Nodes.{create_later_gives, text_gives, attach_gives}
use Rattle.node_trees.proofs.Elements.{candidate_element}

-- copies

spend_at : {h : List Hold} {l : List Event} → KeepsAt Any h l page.spend
spend_at {h} {l} = record { at = λ w k. go w w.fuel k }
  where
    go : (w : Work) (fuel : ℕ) → HoldsAt Any h l w → AfterAt {A = Unit {0}} Any h l (page.spend_from fuel w)
    go w zero k = k
    go w (suc fuel) k = record { holds = k.holds; sound = k.sound; known = tt }

-- what controls keep is changed
controls_at : {q : Trees → Type 0} {h : List Hold} {l : List Event} (f : Page → List Control → List Control)
    → KeepsAt q h l (page.change_page (λ p. with_controls (f p) p))
controls_at {h} {l} f = record {
  at = λ w k. record {
    holds = same_page h (l ++ map event_of w.page.notes) w.page (with_controls (f w.page) w.page) refl refl refl k.holds;
    sound = k.sound;
    known = k.known;
  };
}

copy_gives : {h : List Hold} {l : List Event} (from : ℕ) (x : Facts) (element : Bool) → GivesAt one h l (copy_node from x element)
copy_gives from x true = give_bind_at (create_later_gives x.local x.is_value x.document)
    (λ n. give_seq_at (keeps_at (at_each x.attributes (λ (a : List ℕ × List ℕ). at_seq spend_at (set_at n a.0 a.1))))
    (give_seq_at (keeps_at (controls_at (λ p cs. clone_state cs p.forest from n))) (give_at n (inl refl, tt))))
copy_gives from x false = text_gives x.chars x.document

below_gives : (parent : ℕ) (trees : Trees) (h : List Hold) (l : List Event) → IsHeld parent h → GivesAt none h l (copy_below parent trees)
below_gives parent no_trees h l held = keeps_at at_done
below_gives parent (tree m x shadow children rest) h l held = give_bind_at (copy_gives m x (is_element x.kind))
    (λ n. give_seq_at (insert_gives parent n None (inr held) (inl refl))
    (give_seq_at (below_gives n children (with_hands (n ∷ []) h) l (inl refl)) (below_gives parent rest (with_hands (n ∷ []) h) l (inr held))))

deep_gives : (n : ℕ) (trees : Trees) (h : List Hold) (l : List Event) (deep : Bool) → IsHeld n h → GivesAt none h l (when deep (copy_below n trees))
deep_gives n trees h l true held = below_gives n trees h l held
deep_gives n trees h l false held = keeps_at at_done

clone_gives : {h : List Hold} {l : List Event} (deep : Bool) (node : ℕ) → GivesAt one h l (clone deep node)
clone_gives {h} {l} deep node =
    give_seq_at (give_throw_where_at (λ w. is_document (kind_at w.page.forest node) || is_shadow_root (kind_at w.page.forest node)) NotSupportedError)
    (give_bind_at {nodes = none} (keeps_at (at_read (λ p. facts_at p.forest node)))
    (λ x. give_bind_at {nodes = none} (keeps_at (at_read (λ p. below (tree_of node p.forest))))
    (λ children. give_bind_at (copy_gives node x (is_element x.kind))
    (λ n. give_seq_at (deep_gives n children (with_hands (n ∷ []) h) l deep (inl refl)) (give_at n (inl refl, tt))))))

-- definitions

defined_at : {q : Trees → Type 0} {h : List Hold} {l : List Event} (d : Definition) → KeepsAt q h l (page.change_page (with_defined d))
defined_at {q} {h} {l} d = record {
  at = λ w k. record {
    holds = defined_holds d h (l ++ map event_of w.page.notes) w.page k.holds;
    sound = k.sound;
    known = k.known;
  };
}

-- nodes that pass a test, which only elements pass
passing_elements : (test : ℕ → Bool) (f : Trees) (ns : List ℕ) → ((n : ℕ) → test n ≡ true → is_element (kind_at f n) ≡ true) →
    Each (λ n. is_element (kind_at f n) ≡ true) (filter test ns)
passing_elements test f [] passes = tt
passing_elements test f (n ∷ ns) passes = go (test n) refl (passing_elements test f ns passes)
  where
    go : (t : Bool) → test n ≡ t → Each (λ n. is_element (kind_at f n) ≡ true) (filter test ns)
        → Each (λ n. is_element (kind_at f n) ≡ true) (if t then n ∷ filter test ns else filter test ns)
    go true is rest = (passes n is, rest)
    go false is rest = rest

-- steps at each of some elements, while the forest stays
elements_at : {h : List Hold} {l : List Event} (f : Trees) (step : ℕ → Step Work (Unit {0})) (ns : List ℕ)
    → ((n : ℕ) → ((g : Trees) → f ≡ g → is_element (kind_at g n) ≡ true) → KeepsAt (λ g. f ≡ g) h l (step n)) → Each (λ n. is_element (kind_at f n) ≡ true) ns →
    KeepsAt (λ g. f ≡ g) h l (for_each ns step)
elements_at f step [] keeps all = at_done
elements_at f step (n ∷ ns) keeps all = at_seq (keeps n (λ g same. ap (λ t. is_element (kind_at t n)) (sym same) ∙ all.0)) (elements_at f step ns keeps all.1)

-- so of elements that are found in the forest as it stands
each_element_at : {h : List Hold} {l : List Event} (find : Trees → List ℕ) (step : ℕ → Step Work (Unit {0}))
    → ((f : Trees) → Each (λ n. is_element (kind_at f n) ≡ true) (find f))
    → ((f : Trees) (n : ℕ) → ((g : Trees) → f ≡ g → is_element (kind_at g n) ≡ true) → KeepsAt (λ g. f ≡ g) h l (step n)) →
    KeepsAt Any h l (page.read_page (λ p. find p.forest) >>= (λ ns. for_each ns step))
each_element_at {h} {l} find step finds keeps = record {
  at = λ w k. known (for_each (find w.page.forest) step w) w.page.forest
      ((elements_at w.page.forest step (find w.page.forest) (keeps w.page.forest) (finds w.page.forest)).at w
      (record { holds = k.holds; sound = k.sound; known = refl }));
}
  where
    known : (o : Outcome Work (Unit {0})) (f : Trees) → AfterAt (λ g. f ≡ g) h l o → AfterAt Any h l o
    known (Goes a w) f o = record { holds = o.holds; sound = o.sound; known = tt }
    known (Throws x w) f o = o
    known (Spent w) f o = record { holds = o.holds; sound = o.sound; known = tt }

candidates_at : {h : List Hold} {l : List Event} (d : ℕ) (x : Definition) → KeepsAt Any h l (upgrade_candidates d x)
candidates_at d x = each_element_at (λ f. candidates x.local (is_value_of x) f 1) (enqueue_upgrade d)
    (λ f. passing_elements (λ n. is_candidate x.local (is_value_of x) (facts_at f n)) f (order_of f 1)
    (λ n. candidate_element x.local (is_value_of x) (facts_at f n)))
    (λ f n is. upgrade_at d n is)

all_at : {h : List Hold} {l : List Event} (n : ℕ) → KeepsAt Any h l (upgrade_all n)
all_at n = each_element_at (λ f. elements f n) try_upgrade (λ f. passing_elements (λ m. is_element (kind_at f m)) f (order_of f n) (λ m is. is))
    (λ f m is. try_at m is)

pub define_gives : {h : List Hold} {l : List Event} (name : List ℕ) (class : ℕ) (facts : ClassFacts) (base : Option (List ℕ)) →
    GivesAt none h l (define_name name class facts base)
define_gives name class facts base = give_seq_at (give_refuse_at (λ w. may_define w.page.definitions name class base))
    (give_bind_at {nodes = none} (keeps_at (at_read (λ p. length p.definitions)))
    (λ d. give_seq_at (keeps_at (defined_at (new_definition name class facts base)))
    (give_seq_at (keeps_at (candidates_at d (new_definition name class facts base))) (give_at d tt))))

-- deeds on the page alone

-- the numbers in a deed that have to be those of nodes
abbrev pub page_deed_nodes : PageDeed → List ℕ
page_deed_nodes (page_deeds.Insert parent n before) = parent ∷ n ∷ []
page_deed_nodes deed = []

nothing_gives : {h : List Hold} {l : List Event} {f : Step Work (Unit {0})} → GivesAt none h l f → GivesAt given_nodes h l (gives_nothing f)
nothing_gives x = give_seq_at x (give_at Nothing tt)

pub node_given : {h : List Hold} {l : List Event} {f : Step Work ℕ} → GivesAt one h l f → GivesAt given_nodes h l (gives_node f)
node_given x = give_bind_at x (λ n. give_at (Node n) (inl refl, tt))

pub page_gives : {h : List Hold} {l : List Event} (deed : PageDeed) → Each (λ n. IsHeld n h) (page_deed_nodes deed) → GivesAt given_nodes h l (page_steps deed)
page_gives (page_deeds.MakeText chars document) held = node_given (text_gives chars document)
page_gives (page_deeds.Shadow host) held = node_given (attach_gives host)
page_gives (page_deeds.Insert parent n before) held = nothing_gives (insert_gives parent n before held.0 held.1.0)
page_gives (page_deeds.Remove parent n) held =
    nothing_gives (give_seq_at (give_throw_where_at (λ w. not (is_number (parent_at w.page.forest n) parent)) NotFoundError)
    (keeps_at (remove_at n (λ f apart k. tt))))
page_gives (page_deeds.Detach n) held = nothing_gives (keeps_at (at_where (λ w. is_some (parent_at w.page.forest n)) (remove_at n (λ f apart k. tt))))
page_gives (page_deeds.SetAttr n name value) held =
    nothing_gives (give_seq_at (give_throw_if_at (not (attr_name name)) InvalidCharacterError) (keeps_at (set_at n (str_to_ascii_lowercase name) value)))
page_gives (page_deeds.DelAttr n name) held = nothing_gives (keeps_at (unset_at n (str_to_ascii_lowercase name)))
page_gives (page_deeds.Clone n deep) held = node_given (clone_gives deep n)
page_gives (page_deeds.Adopt document n) held = nothing_gives (give_seq_at (give_throw_where_at (λ w. is_document (kind_at w.page.forest n)) NotSupportedError)
    (give_seq_at (give_throw_where_at (λ w. is_shadow_root (kind_at w.page.forest n)) HierarchyRequestError)
    (keeps_at (adopt_at document n (λ f apart k. tt) (λ m f k. tt)))))
page_gives (page_deeds.Upgrade n) held = nothing_gives (keeps_at (all_at n))

-- what is set on controls

ignored_gives : {h : List Hold} {l : List Event} {f : Step Work (Unit {0})} (ignored : Bool) → GivesAt none h l f
    → GivesAt given_nodes h l (ignored_or ignored f)
ignored_gives true x = give_at Ignored tt
ignored_gives false x = nothing_gives x

pub control_gives : {h : List Hold} {l : List Event} (deed : ControlDeed) → GivesAt given_nodes h l (control_steps deed)
control_gives (Edit n text by_user) =
    give_bind_at {nodes = none} (keeps_at (at_read _)) (λ ignored. ignored_gives ignored (keeps_at (controls_at (λ p cs. set_value cs n text by_user))))
control_gives (Tick n on by_user) =
    give_bind_at {nodes = none} (keeps_at (at_read _)) (λ ignored. ignored_gives ignored (keeps_at (controls_at (λ p cs. set_checked (forms_of p) cs n on))))
control_gives (Choose option on by_user) =
    give_bind_at {nodes = none} (keeps_at (at_read _)) (λ ignored. ignored_gives ignored (keeps_at (controls_at (λ p cs. set_chosen cs p.forest option on))))
control_gives (SetMessage n message) = nothing_gives (keeps_at (controls_at (λ p cs. set_message cs n message)))

-- what is written through internals

internals_at : {h : List Hold} {l : List Event} (f : List (Option Internals) → List (Option Internals)) → KeepsAt Any h l (page.change_page (with_internals f))
internals_at {h} {l} f = record {
  at = λ w k. record {
    holds = same_page h (l ++ map event_of w.page.notes) w.page (with_internals f w.page) refl refl refl k.holds;
    sound = k.sound;
    known = k.known;
  };
}

written_gives : {h : List Hold} {l : List Event} (tests : Work → Option Fault) (f : List (Option Internals) → List (Option Internals)) →
    GivesAt given_nodes h l (gives_nothing (refuse tests >> page.change_page (with_internals f)))
written_gives tests f = nothing_gives (give_seq_at (give_refuse_at tests) (keeps_at (internals_at f)))

pub internals_gives : {h : List Hold} {l : List Event} (deed : InternalsDeed) → GivesAt given_nodes h l (internals_steps deed)
internals_gives (internals_deeds.Attach n) = written_gives _ (λ is. inner.attach is n)
internals_gives (internals_deeds.SetValue n value saved) = written_gives _ (λ is. inner.set_form_value is n value saved)
internals_gives (internals_deeds.SetValidity n flags message) = written_gives _ (λ is. inner.set_validity is n flags message)
internals_gives (internals_deeds.AddState n word) = written_gives _ (λ is. inner.add_state is n word)
internals_gives (internals_deeds.DeleteState n word) = written_gives _ (λ is. inner.delete_state is n word)
internals_gives (internals_deeds.ClearStates n) = written_gives _ (λ is. inner.clear_states is n)

-- resets, and states that come back

reset_at : {h : List Hold} {l : List Event} (n : ℕ) → KeepsAt Any h l (reset_control n)
reset_at n = at_seq (controls_at (λ p cs. reset cs p.forest n)) (at_where (λ w. is_custom_form_associated w.page n) (callback_at n FormReset))

pub reset_gives : {h : List Hold} {l : List Event} (form : ℕ) → GivesAt none h l (reset_form form)
reset_gives form = keeps_at (at_bind (at_read (λ p. controls_of p form)) (λ list. at_each list reset_at))

pub form_gives : {h : List Hold} {l : List Event} (deed : FormDeed) → GivesAt given_nodes h l (form_steps deed)
form_gives (form_deeds.Reset form by_user) = nothing_gives (reset_gives form)
form_gives (form_deeds.Restore n text mode) =
    give_bind_at {nodes = none} (keeps_at (at_read _)) (λ ignored. ignored_gives ignored (keeps_at (callback_at n (FormStateRestore text mode))))
