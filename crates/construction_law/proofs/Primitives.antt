-- The primitives of the page, but for the pop. Two of these change construction stacks: the base call leaves each as deep as it
-- was, and the begin of an upgrade makes that of the definition one entry deeper.
use Rattle.std.proofs.Common.{◌≡◌, ℕ, Bool, true, false, List, [], ◌∷◌, Option, Some, None, refl, sym, ap, ◌∙◌}
use Rattle.std.specs.Prelude.{length}
use Rattle.ce_base.specs.declared.custom_state.CustomState.{CustomState}
use Rattle.ce_base.specs.declared.custom_state.CustomState.TheVariants.{Failed}
use Rattle.ce_base.specs.declared.fault.Fault.TheVariants.{TypeError}
use Rattle.node_trees.specs.Facts.{Facts, is_element}
use Rattle.node_trees.specs.Spots.{facts_at}
use Rattle.node_trees.specs.Trees.{Trees, none, tree}
use Rattle.reaction_queue.specs.declared.reaction.Reaction.{Reaction}
use Rattle.reaction_queue.specs.declared.reaction.Reaction.TheVariants.{Connected, FormAssociated, FormDisabled}
use Rattle.ce_registry.specs.declared.class_facts.ClassFacts.{ClassFacts}
use Rattle.ce_registry.specs.declared.definition.Definition.{Definition}
use Rattle.ce_registry.specs.Registry.{by_class}
use Rattle.construction.specs.Stacks.{stack_of}
use Rattle.ce_algorithms.specs.declared.deed.ControlDeed.{ControlDeed}
use Rattle.ce_algorithms.specs.declared.deed.ControlDeed.TheVariants.{Edit, Tick, Choose, SetMessage}
use Rattle.ce_algorithms.specs.declared.deed.PageDeed.{PageDeed}
use Rattle.ce_algorithms.specs.declared.deed.PageDeed.TheVariants as deeds
use Rattle.ce_algorithms.specs.Steps.{Step, Outcome, Goes, Throws, Spent, then_do, ◌>>=◌, ◌>>◌, found, for_each, where_is}
use Rattle.ce_algorithms.specs.Page.{Page, Work, read_page, definition_at, with_state, with_definition}
use Rattle.ce_algorithms.specs.Making.{make_node, make_document}
use Rattle.ce_algorithms.specs.Enqueue.{enqueue_callback, enqueue_found}
use Rattle.form_controls.specs.declared.change.Change.{Change}
use Rattle.ce_algorithms.specs.FormChanges.{tell_owner, tell_disabled, tell_form_change, tell_first_owner, tell_form}
use Rattle.ce_algorithms.specs.Mutation.{is_connected, remove, adopt, connected_now, inserted, pre_insert}
use Rattle.ce_algorithms.specs.Attributes.{handle_attribute_change, remove_there}
use Rattle.ce_algorithms.specs.Define.{define_name}
use Rattle.ce_algorithms.specs.CreateLater.{make_in_state, make_later}
use Rattle.ce_algorithms.specs.Controls.{ignored_or, control_steps}
use Rattle.ce_algorithms.specs.declared.deed.FormDeed.{FormDeed}
use Rattle.ce_algorithms.specs.declared.deed.FormDeed.TheVariants.{Reset, Restore}
use Rattle.ce_algorithms.specs.declared.deed.InternalsDeed.{InternalsDeed}
use Rattle.ce_algorithms.specs.declared.deed.InternalsDeed.TheVariants.{Attach, SetValue, SetValidity, AddState, DeleteState, ClearStates}
use Rattle.ce_algorithms.specs.Reset.{reset_form}
use Rattle.ce_algorithms.specs.Clone.{copy_node, copy_below}
use Rattle.ce_algorithms.specs.Construction.{make_custom, base_entry, base_call, push_construction}
use Rattle.ce_algorithms.specs.Upgrade.{enqueue_attribute, begin_upgrade}
use Rattle.ce_algorithms.specs.Perform.{gives_node, form_steps, internals_steps, page_steps}
use Rattle.construction_law.proofs.StackDepths.{Stacks, AreDeep, given_anew, one_more, push_deepens}
use Rattle.construction_law.proofs.Steps.{Stays, Leaves, of_page, leaves_steps, leaves_done, leaves_give, leaves_bind, leaves_seq}

-- what operations do on the page alone

leaves_callback : (n : ℕ) (r : Reaction) → Leaves of_page (enqueue_callback n r)
leaves_callback n r = search leaves_steps depth 12

leaves_enqueue_found : (n : ℕ) (d : Option ℕ) → Leaves of_page (enqueue_found n d)
leaves_enqueue_found n None = leaves_done
leaves_enqueue_found n (Some d) = search leaves_steps depth 12

leaves_tell_owner : (n : ℕ) (o : Option (Option ℕ)) → Leaves of_page (tell_owner n o)
leaves_tell_owner n None = leaves_done
leaves_tell_owner n (Some owner) = leaves_callback n (FormAssociated owner)

leaves_tell_disabled : (n : ℕ) (o : Option Bool) → Leaves of_page (tell_disabled n o)
leaves_tell_disabled n None = leaves_done
leaves_tell_disabled n (Some disabled) = leaves_callback n (FormDisabled disabled)

leaves_form_change : (c : Change) → Leaves of_page (tell_form_change c)
leaves_form_change c = search (leaves_steps, leaves_tell_owner, leaves_tell_disabled) depth 12

leaves_tell_first_owner : (n : ℕ) (o : Option ℕ) → Leaves of_page (tell_first_owner n o)
leaves_tell_first_owner n None = leaves_done
leaves_tell_first_owner n (Some form) = leaves_callback n (FormAssociated (Some form))

pub leaves_tell_form : (n : ℕ) → Leaves of_page (tell_form n)
leaves_tell_form n = search (leaves_steps, leaves_tell_first_owner, leaves_callback) depth 14

leaves_remove : (n : ℕ) → Leaves of_page (remove n)
leaves_remove n = search (leaves_steps, leaves_form_change, leaves_callback) depth 16

leaves_adopt : (document n : ℕ) → Leaves of_page (adopt document n)
leaves_adopt document n = search (leaves_steps, leaves_remove, leaves_callback) depth 16

leaves_connected_now : (n : ℕ) (custom : Bool) → Leaves of_page (connected_now n custom)
leaves_connected_now n true = leaves_callback n Connected
leaves_connected_now n false = search (leaves_steps, leaves_enqueue_found) depth 12

leaves_inserted : (changes : List Change) (n : ℕ) → Leaves of_page (inserted changes n)
leaves_inserted changes n = search (leaves_steps, leaves_form_change, leaves_connected_now) depth 14

leaves_pre_insert : (parent n : ℕ) (before : Option ℕ) → Leaves of_page (pre_insert parent n before)
leaves_pre_insert parent n before = search (leaves_steps, leaves_adopt, leaves_inserted, leaves_form_change) depth 16

leaves_attribute_change : (old : Page) (n : ℕ) (name : List ℕ) (before after : Option (List ℕ))
    → Leaves of_page (handle_attribute_change old n name before after)
leaves_attribute_change old n name before after = search (leaves_steps, leaves_callback, leaves_form_change) depth 12

leaves_remove_there : (n : ℕ) (name : List ℕ) (value : Option (List ℕ)) → Leaves of_page (remove_there n name value)
leaves_remove_there n name None = leaves_done
leaves_remove_there n name (Some value) = search (leaves_steps, leaves_attribute_change) depth 12

pub leaves_define_name : (name : List ℕ) (class : ℕ) (facts : ClassFacts) (base : Option (List ℕ)) → Leaves of_page (define_name name class facts base)
leaves_define_name name class facts base = search leaves_steps depth 16

leaves_make_node : (x : ℕ → Facts) → Leaves of_page (make_node x)
leaves_make_node x = search leaves_steps depth 12

pub leaves_document : Leaves of_page (gives_node make_document)
leaves_document = search leaves_steps depth 12

pub leaves_make_in_state : (local : List ℕ) (is : Option (List ℕ)) (document : ℕ) (state : CustomState) → Leaves of_page (make_in_state local is document state)
leaves_make_in_state local is document state = search (leaves_steps, leaves_make_node) depth 12

leaves_make_later : (local : List ℕ) (is : Option (List ℕ)) (document : ℕ) (d : Option ℕ) → Leaves of_page (make_later local is document d)
leaves_make_later local is document None = leaves_make_in_state local is document _
leaves_make_later local is document (Some d) = search (leaves_steps, leaves_make_in_state) depth 14

leaves_copy_node : (from : ℕ) (x : Facts) (element : Bool) → Leaves of_page (copy_node from x element)
leaves_copy_node from x true = search (leaves_steps, leaves_make_later, leaves_attribute_change) depth 18
leaves_copy_node from x false = search leaves_steps depth 12

leaves_copy_below : (parent : ℕ) (trees : Trees) → Leaves of_page (copy_below parent trees)
leaves_copy_below parent none = leaves_done
leaves_copy_below parent (tree m x shadow children rest) =
    leaves_bind (leaves_copy_node m x (is_element x.kind))
    (λ n. leaves_seq (leaves_pre_insert parent n None) (leaves_seq (leaves_copy_below n children) (leaves_copy_below parent rest)))

ruleset deed_steps = (leaves_steps, leaves_pre_insert, leaves_remove, leaves_adopt, leaves_attribute_change, leaves_remove_there, leaves_enqueue_found)

pub leaves_page_steps : (what : PageDeed) → Leaves of_page (page_steps what)
leaves_page_steps (deeds.Clone n whole) = search (leaves_steps, leaves_copy_node, leaves_copy_below) depth 20
leaves_page_steps what = search deed_steps depth 20

pub leaves_ignored_or : {S : Type 0} {stacks : S → Stacks} {f : Step S (Unit {0})} (ignored : Bool) → Leaves stacks f → Leaves stacks (ignored_or ignored f)
leaves_ignored_or true h = leaves_give _
leaves_ignored_or false h = leaves_seq h (leaves_give _)

-- what is set on controls
pub leaves_control_steps : (what : ControlDeed) → Leaves of_page (control_steps what)
leaves_control_steps (Edit n text by_user) = search (leaves_steps, leaves_ignored_or) depth 12
leaves_control_steps (Tick n on by_user) = search (leaves_steps, leaves_ignored_or) depth 12
leaves_control_steps (Choose option on by_user) = search (leaves_steps, leaves_ignored_or) depth 12
leaves_control_steps (SetMessage n message) = search leaves_steps depth 12

-- what is written through internals
pub leaves_internals_steps : (what : InternalsDeed) → Leaves of_page (internals_steps what)
leaves_internals_steps (Attach n) = search leaves_steps depth 12
leaves_internals_steps (SetValue n value saved) = search leaves_steps depth 12
leaves_internals_steps (SetValidity n flags message) = search leaves_steps depth 12
leaves_internals_steps (AddState n word) = search leaves_steps depth 12
leaves_internals_steps (DeleteState n word) = search leaves_steps depth 12
leaves_internals_steps (ClearStates n) = search leaves_steps depth 12

pub leaves_reset_form : (form : ℕ) → Leaves of_page (reset_form form)
leaves_reset_form form = search (leaves_steps, leaves_callback) depth 16

-- resets, and states that come back
pub leaves_form_steps : (what : FormDeed) → Leaves of_page (form_steps what)
leaves_form_steps (Reset form by_user) = search (leaves_steps, leaves_reset_form) depth 6
leaves_form_steps (Restore n text mode) = search (leaves_steps, leaves_ignored_or, leaves_callback) depth 14

-- the base call

leaves_make_custom : (d : ℕ) (x : Definition) → Leaves of_page (make_custom d x)
leaves_make_custom d x = search (leaves_steps, leaves_make_node) depth 12

-- by the definition's stack, where the marker takes the place of an element that stands last
base_stays : (d : ℕ) (x : Definition) (entries : List (Option ℕ)) (depths : ℕ → ℕ) (w : Work) → stack_of d (of_page w) ≡ entries → AreDeep depths (of_page w) →
    Stays of_page depths (base_entry d x entries w)
base_stays d x [] depths w is h = (leaves_make_custom d x).at depths w h
base_stays d x (None ∷ entries) depths w is h = h
base_stays d x (Some n ∷ entries) depths w is h = λ e. given_anew e d (None ∷ entries) (of_page w) (sym (ap length is)) ∙ h e

pub leaves_base_call : (class : ℕ) → Leaves of_page (base_call class)
leaves_base_call class = record { at = λ depths w. go depths w (by_class w.page.definitions class) }
  where
    go : (depths : ℕ → ℕ) (w : Work) (d : Option ℕ) → AreDeep depths (of_page w) →
        Stays of_page depths ((found d TypeError
        >>= (λ d. read_page (λ p. definition_at p d) >>= (λ x. read_page (λ p. stack_of d p.stacks) >>= (λ entries. base_entry d x entries)))) w)
    go depths w None h = h
    go depths w (Some d) h = base_stays d (definition_at w.page d) (stack_of d w.page.stacks) depths w refl h

-- the begin of an upgrade

-- where it goes on, the definition's stack has one entry more
abbrev pub Deepens : {A : Type 0} → ℕ → (ℕ → ℕ) → Outcome Work A → Type 0
Deepens d depths (Goes a w) = AreDeep (one_more d depths) (of_page w)
Deepens d depths (Throws f w) = AreDeep depths (of_page w)
Deepens d depths (Spent w) = Unit {0}

deepens_then : {A B : Type 0} (d : ℕ) (depths : ℕ → ℕ) (o : Outcome Work A) (next : Step Work B) → Stays of_page depths o →
    ((w : Work) → AreDeep depths (of_page w) → Deepens d depths (next w)) → Deepens d depths (then_do o (λ _. next))
deepens_then d depths (Goes a w) next h k = k w h
deepens_then d depths (Throws f w) next h k = h
deepens_then d depths (Spent w) next h k = h

pub begin_deepens : (n d : ℕ) (depths : ℕ → ℕ) (w : Work) → AreDeep depths (of_page w) → Deepens d depths (begin_upgrade n d w)
begin_deepens n d depths w h =
    deepens_then d depths (for_each attributes (enqueue_attribute n) v) (connects >> push_construction d n) (told.at depths v h)
    (λ u h. deepens_then d depths (connects u) (push_construction d n) (connected.at depths u h) (λ t. push_deepens d n depths (of_page t)))
  where
    v : Work
    v = record w { page = with_state n Failed (with_definition n (Some d) w.page) }

    attributes : List (List ℕ × List ℕ)
    attributes = (facts_at w.page.forest n).attributes

    connects : Step Work (Unit {0})
    connects = where_is (λ u. is_connected u.page n) (enqueue_callback n Connected)

    told : Leaves of_page (for_each attributes (enqueue_attribute n))
    told = search (leaves_steps, leaves_callback) depth 12

    connected : Leaves of_page connects
    connected = search (leaves_steps, leaves_callback) depth 12
