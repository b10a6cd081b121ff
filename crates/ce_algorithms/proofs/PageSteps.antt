-- A relation that each change of the page keeps holds of each primitive, from the page where it begins to the page where it ends.
use Rattle.std.proofs.Common.{◌≡◌, ℕ, zero, suc, Bool, true, false, List, [], ◌∷◌, Option, Some, None, refl}
use Rattle.ce_base.specs.declared.custom_state.CustomState.{CustomState}
use Rattle.ce_base.specs.declared.fault.Fault.{Fault}
use Rattle.node_trees.specs.Facts.{Facts, new_element, new_text, is_element}
use Rattle.node_trees.specs.Trees.{Trees, none, tree}
use Rattle.reaction_queue.specs.declared.reaction.Reaction.{Reaction}
use Rattle.reaction_queue.specs.declared.reaction.Reaction.TheVariants.{Upgrade, Connected, FormAssociated, FormDisabled, FormReset}
use Rattle.reaction_queue.specs.Queues.{enqueued}
use Rattle.ce_registry.specs.declared.class_facts.ClassFacts.{ClassFacts}
use Rattle.ce_registry.specs.declared.definition.Definition.{Definition}
use Rattle.ce_algorithms.specs.Steps.{Step, Outcome, Goes, Throws, Spent, then_do, ◌>>=◌, ◌>>◌, give, done, throw, when, throw_if, throw_any, found, find_or}
use Rattle.ce_algorithms.specs.Steps.{where_is, throw_where, refuse, for_each, read}
use Rattle.ce_algorithms.specs.Page.{Page, Work, Element, spend, spend_from, read_page, change_page, with_controls, with_internals, with_forest, with_queues}
use Rattle.ce_algorithms.specs.Page.{with_element, with_state, with_definition}
use Rattle.ce_algorithms.specs.Making.{with_new, make_node, make_element, make_text, make_shadow_root}
use Rattle.ce_algorithms.specs.Enqueue.{noted, enqueue, enqueue_callback, enqueue_upgrade, enqueue_found, try_upgrade}
use Rattle.ce_base.specs.declared.flags.Flags.{Flags}
use Rattle.form_controls.specs.declared.change.Change.{Change}
use Rattle.form_controls.specs.declared.control.Control.{Control}
use Rattle.form_controls.specs.declared.internals.Internals.{Internals}
use Rattle.form_controls.specs.declared.value.Value.{Value}
use Rattle.form_controls.specs.Resetting.{reset}
use Rattle.ce_algorithms.specs.Forms.{is_custom_form_associated}
use Rattle.reaction_queue.specs.declared.reaction.Mode.{Mode}
use Rattle.ce_algorithms.specs.FormChanges.{tell_owner, tell_disabled, tell, tell_form_change, tell_at_turn, tell_others, tell_first_owner, tell_form}
use Rattle.ce_algorithms.specs.Mutation.{removed, remove, adopted, move_to, adopt, connected_now, inserted, put_in, insert, pre_insert}
use Rattle.ce_algorithms.specs.Attributes.{handle_attribute_change, set_attribute, remove_there, remove_attribute}
use Rattle.ce_algorithms.specs.Define.{with_defined, upgrade_candidates, define_name}
use Rattle.ce_algorithms.specs.CreateLater.{make_in_state, make_later, create_later}
use Rattle.ce_algorithms.specs.Controls.{set_value, set_checked, set_chosen, set_message, ignored_or, unless_ignored, control_steps, copy_control}
use Rattle.ce_algorithms.specs.Internals.{attach_internals, change_states, set_form_value, set_validity}
use Rattle.ce_algorithms.specs.Reset.{reset_control, reset_form, restore}
use Rattle.ce_algorithms.specs.Clone.{copy_attribute, copy_node, copy_below}
use Rattle.ce_algorithms.specs.Construction.{with_stacks, pop_construction, make_custom, base_entry, base_call}
use Rattle.ce_algorithms.specs.Upgrade.{enqueue_attribute, begin_upgrade}
use Rattle.ce_algorithms.specs.declared.deed.ControlDeed.{ControlDeed}
use Rattle.ce_algorithms.specs.declared.deed.ControlDeed.TheVariants.{Edit, Tick, Choose, SetMessage}
use Rattle.ce_algorithms.specs.declared.deed.FormDeed.{FormDeed}
use Rattle.ce_algorithms.specs.declared.deed.FormDeed.TheVariants.{Reset, Restore}
use Rattle.ce_algorithms.specs.declared.deed.InternalsDeed.{InternalsDeed}
use Rattle.ce_algorithms.specs.declared.deed.InternalsDeed.TheVariants.{Attach, SetValue, SetValidity, AddState, DeleteState, ClearStates}
use Rattle.ce_algorithms.specs.declared.deed.PageDeed.{PageDeed}
use Rattle.ce_algorithms.specs.declared.deed.PageDeed.TheVariants as page_deeds
use Rattle.ce_algorithms.specs.Perform as perform

abbrev pub work_in : {A : Type 0} → Outcome Work A → Work
work_in (Goes a w) = w
work_in (Throws f w) = w
work_in (Spent w) = w

-- a step that the relation holds of
pub record Keeps {A : Type 0} (R : Work → Work → Type 0) (f : Step Work A) : Type 0 where
  pub at : (w : Work) → R w (work_in (f w))

abbrev pub on : (Page → Page) → Work → Work
on f w = record w { page = f w.page }

-- what the relation has to hold of: nothing, one thing after another, each change of a page, and a unit of fuel that is spent
pub record Closed (R : Work → Work → Type 0) : Type 0 where
  pub same : (w : Work) → R w w
  pub next : (u v w : Work) → R u v → R v w → R u w
  pub forest : (f : Trees → Trees) (w : Work) → R w (on (with_forest f) w)
  pub element : (n : ℕ) (e : Element) (w : Work) → R w (on (with_element n e) w)
  pub defined : (d : Definition) (w : Work) → R w (on (with_defined d) w)
  pub node : (f : Trees) (w : Work) → R w (on (with_new f) w)
  pub stacks : (f : List (List (Option ℕ)) → List (List (Option ℕ))) (w : Work) → R w (on (with_stacks f) w)
  pub controls : (cs : List Control) (w : Work) → R w (on (with_controls (λ _. cs)) w)
  pub internals : (is : List (Option Internals)) (w : Work) → R w (on (with_internals (λ _. is)) w)
  pub spent : (k : ℕ) (w : Work) → w.fuel ≡ suc k → R w (record w { fuel = k })
  pub enqueued : (n : ℕ) (r : Reaction) (k : ℕ) (w : Work) → w.fuel ≡ suc k → R w (record { page = noted n r (with_queues (enqueued n r) w.page); fuel = k })

module _ (R : Work → Work → Type 0) (c : Closed R) where
  -- steps one after another

  keeps_then_do : {A B : Type 0} (w : Work) (o : Outcome Work A) (k : A → Step Work B) → R w (work_in o) → ((a : A) → Keeps R (k a))
      → R w (work_in (then_do o k))
  keeps_then_do w (Goes a v) k h l = c.next w v _ h ((l a).at v)
  keeps_then_do w (Throws f v) k h l = h
  keeps_then_do w (Spent v) k h l = h

  pub keeps_bind : {A B : Type 0} {f : Step Work A} {k : A → Step Work B} → Keeps R f → ((a : A) → Keeps R (k a)) → Keeps R (f >>= k)
  keeps_bind {f} {k} h l = record { at = λ w. keeps_then_do w (f w) k (h.at w) l }

  pub keeps_seq : {A B : Type 0} {f : Step Work A} {g : Step Work B} → Keeps R f → Keeps R g → Keeps R (f >> g)
  keeps_seq {f} {g} h l = record { at = λ w. keeps_then_do w (f w) (λ _. g) (h.at w) (λ _. l) }

  -- steps that leave the page as it is

  pub keeps_give : {A : Type 0} (a : A) → Keeps R (give a)
  keeps_give a = record { at = λ w. c.same w }

  pub keeps_done : Keeps R done
  keeps_done = record { at = λ w. c.same w }

  pub keeps_throw : {A : Type 0} (f : Fault) → Keeps R (throw {A = A} f)
  keeps_throw f = record { at = λ w. c.same w }

  pub keeps_read : {A : Type 0} (f : Work → A) → Keeps R (read f)
  keeps_read f = record { at = λ w. c.same w }

  pub keeps_read_page : {A : Type 0} (f : Page → A) → Keeps R (read_page f)
  keeps_read_page f = record { at = λ w. c.same w }

  -- steps by a test

  pub keeps_when : {f : Step Work (Unit {0})} (t : Bool) → Keeps R f → Keeps R (when t f)
  keeps_when true h = h
  keeps_when false h = keeps_done

  pub keeps_throw_if : (t : Bool) (f : Fault) → Keeps R (throw_if t f)
  keeps_throw_if true f = keeps_throw f
  keeps_throw_if false f = keeps_done

  pub keeps_throw_any : (o : Option Fault) → Keeps R (throw_any o)
  keeps_throw_any None = keeps_done
  keeps_throw_any (Some f) = keeps_throw f

  pub keeps_found : {A : Type 0} (o : Option A) (f : Fault) → Keeps R (found o f)
  keeps_found None f = keeps_throw f
  keeps_found (Some a) f = keeps_give a

  pub keeps_find_or : {A : Type 0} (what : Work → Option A) (f : Fault) → Keeps R (find_or what f)
  keeps_find_or what f = keeps_bind (keeps_read what) (λ o. keeps_found o f)

  pub keeps_where_is : {f : Step Work (Unit {0})} (test : Work → Bool) → Keeps R f → Keeps R (where_is test f)
  keeps_where_is test h = keeps_bind (keeps_read test) (λ t. keeps_when t h)

  pub keeps_throw_where : (test : Work → Bool) (f : Fault) → Keeps R (throw_where test f)
  keeps_throw_where test f = keeps_bind (keeps_read test) (λ t. keeps_throw_if t f)

  pub keeps_refuse : (tests : Work → Option Fault) → Keeps R (refuse tests)
  keeps_refuse tests = keeps_bind (keeps_read tests) keeps_throw_any

  pub keeps_each : {A : Type 0} {f : A → Step Work (Unit {0})} (xs : List A) → ((a : A) → Keeps R (f a)) → Keeps R (for_each xs f)
  keeps_each [] h = keeps_done
  keeps_each (x ∷ xs) h = keeps_seq (h x) (keeps_each xs h)

  -- changes

  pub keeps_spend : Keeps R spend
  keeps_spend = record { at = λ w. go w w.fuel refl }
    where
      go : (w : Work) (k : ℕ) → w.fuel ≡ k → R w (work_in (spend_from k w))
      go w zero e = c.same w
      go w (suc k) e = c.spent k w e

  pub keeps_forest : (f : Trees → Trees) → Keeps R (change_page (with_forest f))
  keeps_forest f = record { at = λ w. c.forest f w }

  pub keeps_state : (n : ℕ) (s : CustomState) → Keeps R (change_page (with_state n s))
  keeps_state n s = record { at = λ w. c.element n _ w }

  pub keeps_definition : (n : ℕ) (d : Option ℕ) → Keeps R (change_page (with_definition n d))
  keeps_definition n d = record { at = λ w. c.element n _ w }

  pub keeps_defined : (d : Definition) → Keeps R (change_page (with_defined d))
  keeps_defined d = record { at = λ w. c.defined d w }

  pub keeps_new : (f : Page → Trees) → Keeps R (change_page (λ p. with_new (f p) p))
  keeps_new f = record { at = λ w. c.node (f w.page) w }

  pub keeps_stacks : (f : List (List (Option ℕ)) → List (List (Option ℕ))) → Keeps R (change_page (with_stacks f))
  keeps_stacks f = record { at = λ w. c.stacks f w }

  pub keeps_enqueue : (n : ℕ) (r : Reaction) → Keeps R (enqueue n r)
  keeps_enqueue n r = record { at = λ w. go w w.fuel refl }
    where
      go : (w : Work) (k : ℕ) → w.fuel ≡ k → R w (work_in (then_do (spend_from k w) (λ _. change_page (with_queues (enqueued n r)) >> change_page (noted n r))))
      go w zero e = c.same w
      go w (suc k) e = c.enqueued n r k w e

  pub ruleset page_steps = (
    keeps_where_is,
    keeps_throw_where,
    keeps_refuse,
    keeps_find_or,
    keeps_bind,
    keeps_seq,
    keeps_read,
    keeps_read_page,
    keeps_done,
    keeps_give,
    keeps_when,
    keeps_each,
    keeps_throw_if,
    keeps_spend,
    keeps_forest,
    keeps_state,
    keeps_definition,
    keeps_defined,
    keeps_new,
    keeps_stacks,
    keeps_enqueue,
  )

  -- enqueues

  pub keeps_enqueue_callback : (n : ℕ) (r : Reaction) → Keeps R (enqueue_callback n r)
  keeps_enqueue_callback n r = search (page_steps) depth 12

  pub keeps_enqueue_upgrade : (d n : ℕ) → Keeps R (enqueue_upgrade d n)
  keeps_enqueue_upgrade d n = keeps_enqueue n (Upgrade d)

  pub keeps_enqueue_found : (n : ℕ) (d : Option ℕ) → Keeps R (enqueue_found n d)
  keeps_enqueue_found n None = keeps_done
  keeps_enqueue_found n (Some d) = keeps_enqueue_upgrade d n

  pub keeps_try_upgrade : (n : ℕ) → Keeps R (try_upgrade n)
  keeps_try_upgrade n = search (page_steps, keeps_enqueue_found) depth 12

  -- form changes

  pub keeps_tell_owner : (n : ℕ) (o : Option (Option ℕ)) → Keeps R (tell_owner n o)
  keeps_tell_owner n None = keeps_done
  keeps_tell_owner n (Some owner) = keeps_enqueue_callback n (FormAssociated owner)

  pub keeps_tell_disabled : (n : ℕ) (o : Option Bool) → Keeps R (tell_disabled n o)
  keeps_tell_disabled n None = keeps_done
  keeps_tell_disabled n (Some disabled) = keeps_enqueue_callback n (FormDisabled disabled)

  pub keeps_tell : (x : Change) → Keeps R (tell x)
  keeps_tell x = search (page_steps, keeps_tell_owner, keeps_tell_disabled) depth 12

  pub keeps_tell_form_change : (x : Change) → Keeps R (tell_form_change x)
  keeps_tell_form_change x = search (page_steps, keeps_tell) depth 12

  pub keeps_tell_at_turn : (xs : List Change) (n : ℕ) → Keeps R (tell_at_turn xs n)
  keeps_tell_at_turn xs n = keeps_each _ keeps_tell_form_change

  pub keeps_tell_others : (xs : List Change) (walk : List ℕ) → Keeps R (tell_others xs walk)
  keeps_tell_others xs walk = keeps_each _ keeps_tell_form_change

  pub keeps_tell_first_owner : (n : ℕ) (o : Option ℕ) → Keeps R (tell_first_owner n o)
  keeps_tell_first_owner n None = keeps_done
  keeps_tell_first_owner n (Some form) = keeps_enqueue_callback n (FormAssociated (Some form))

  pub keeps_tell_form : (n : ℕ) → Keeps R (tell_form n)
  keeps_tell_form n = search (page_steps, keeps_tell_first_owner, keeps_enqueue_callback) depth 12

  -- removal, adoption, insertion

  pub keeps_removed : (xs : List Change) (b : Bool) (n : ℕ) → Keeps R (removed xs b n)
  keeps_removed xs b n = search (page_steps, keeps_tell_at_turn, keeps_enqueue_callback) depth 12

  pub keeps_remove : (n : ℕ) → Keeps R (remove n)
  keeps_remove n = search (page_steps, keeps_removed, keeps_tell_others) depth 14

  pub keeps_adopted : (old new n : ℕ) → Keeps R (adopted old new n)
  keeps_adopted old new n = search (page_steps, keeps_enqueue_callback) depth 12

  pub keeps_move_to : (old new n : ℕ) → Keeps R (move_to old new n)
  keeps_move_to old new n = search (page_steps, keeps_adopted) depth 12

  pub keeps_adopt : (d n : ℕ) → Keeps R (adopt d n)
  keeps_adopt d n = search (page_steps, keeps_remove, keeps_move_to) depth 12

  pub keeps_connected_now : (n : ℕ) (b : Bool) → Keeps R (connected_now n b)
  keeps_connected_now n true = keeps_enqueue_callback n Connected
  keeps_connected_now n false = search (page_steps, keeps_try_upgrade) depth 12

  pub keeps_inserted : (xs : List Change) (n : ℕ) → Keeps R (inserted xs n)
  keeps_inserted xs n = search (page_steps, keeps_tell_at_turn, keeps_connected_now) depth 12

  pub keeps_put_in : (parent n : ℕ) (b : Option ℕ) → Keeps R (put_in parent n b)
  keeps_put_in parent n b = search (page_steps, keeps_inserted, keeps_tell_others) depth 14

  pub keeps_insert : (parent n : ℕ) (b : Option ℕ) → Keeps R (insert parent n b)
  keeps_insert parent n b = search (page_steps, keeps_adopt, keeps_put_in) depth 14

  pub keeps_pre_insert : (parent n : ℕ) (b : Option ℕ) → Keeps R (pre_insert parent n b)
  keeps_pre_insert parent n b = search (page_steps, keeps_insert) depth 14

  -- attributes

  pub keeps_handle_attribute_change : (old : Page) (n : ℕ) (name : List ℕ) (before after : Option (List ℕ))
      → Keeps R (handle_attribute_change old n name before after)
  keeps_handle_attribute_change old n name before after = search (page_steps, keeps_enqueue_callback, keeps_tell_others) depth 12

  pub keeps_set_attribute : (n : ℕ) (name value : List ℕ) → Keeps R (set_attribute n name value)
  keeps_set_attribute n name value = search (page_steps, keeps_handle_attribute_change) depth 12

  pub keeps_remove_there : (n : ℕ) (name : List ℕ) (old : Option (List ℕ)) → Keeps R (remove_there n name old)
  keeps_remove_there n name None = keeps_done
  keeps_remove_there n name (Some value) = search (page_steps, keeps_handle_attribute_change) depth 12

  pub keeps_remove_attribute : (n : ℕ) (name : List ℕ) → Keeps R (remove_attribute n name)
  keeps_remove_attribute n name = search (page_steps, keeps_remove_there) depth 12

  -- definitions

  pub keeps_upgrade_candidates : (d : ℕ) (x : Definition) → Keeps R (upgrade_candidates d x)
  keeps_upgrade_candidates d x = search (page_steps, keeps_enqueue_upgrade d) depth 12

  pub keeps_define_name : (name : List ℕ) (class : ℕ) (facts : ClassFacts) (base : Option (List ℕ)) → Keeps R (define_name name class facts base)
  keeps_define_name name class facts base = search (page_steps, keeps_upgrade_candidates) depth 14

  -- new nodes

  pub keeps_make_node : (x : ℕ → Facts) → Keeps R (make_node x)
  keeps_make_node x = search (page_steps) depth 12

  pub keeps_make_element : (local : List ℕ) (is : Option (List ℕ)) (d : ℕ) → Keeps R (make_element local is d)
  keeps_make_element local is d = keeps_make_node (λ n. new_element local is d)

  pub keeps_make_text : (chars : List ℕ) (d : ℕ) → Keeps R (make_text chars d)
  keeps_make_text chars d = keeps_make_node (λ n. new_text chars d)

  pub keeps_make_shadow_root : (host : ℕ) → Keeps R (make_shadow_root host)
  keeps_make_shadow_root host = search (page_steps) depth 12

  pub keeps_make_in_state : (local : List ℕ) (is : Option (List ℕ)) (d : ℕ) (s : CustomState) → Keeps R (make_in_state local is d s)
  keeps_make_in_state local is d s = search (page_steps, keeps_make_element) depth 12

  pub keeps_make_later : (local : List ℕ) (is : Option (List ℕ)) (d : ℕ) (o : Option ℕ) → Keeps R (make_later local is d o)
  keeps_make_later local is d None = keeps_make_in_state local is d _
  keeps_make_later local is d (Some x) = search (page_steps, keeps_make_in_state) depth 12

  pub keeps_create_later : (local : List ℕ) (is : Option (List ℕ)) (d : ℕ) → Keeps R (create_later local is d)
  keeps_create_later local is d = search (page_steps, keeps_make_later) depth 12

  -- clones

  pub keeps_copy_attribute : (n : ℕ) (a : List ℕ × List ℕ) → Keeps R (copy_attribute n a)
  keeps_copy_attribute n a = search (page_steps, keeps_set_attribute) depth 12

  pub keeps_copy_control : (from to : ℕ) → Keeps R (copy_control from to)
  keeps_copy_control from to = record { at = λ w. c.controls _ w }

  pub keeps_copy_node : (m : ℕ) (x : Facts) (b : Bool) → Keeps R (copy_node m x b)
  keeps_copy_node m x true = search (page_steps, keeps_create_later, keeps_copy_attribute, keeps_copy_control) depth 14
  keeps_copy_node m x false = keeps_make_text _ _

  pub keeps_copy_below : (parent : ℕ) (ts : Trees) → Keeps R (copy_below parent ts)
  keeps_copy_below parent none = keeps_done
  keeps_copy_below parent (tree m x shadow children rest) =
      keeps_bind (keeps_copy_node m x (is_element x.kind))
      (λ n. keeps_seq (keeps_pre_insert parent n None) (keeps_seq (keeps_copy_below n children) (keeps_copy_below parent rest)))

  -- controls

  keeps_set_value : (n : ℕ) (text : List ℕ) (by_user : Bool) → Keeps R (set_value n text by_user)
  keeps_set_value n text by_user = record { at = λ w. c.controls _ w }

  keeps_set_checked : (n : ℕ) (on : Bool) → Keeps R (set_checked n on)
  keeps_set_checked n on = record { at = λ w. c.controls _ w }

  keeps_set_chosen : (option : ℕ) (on : Bool) → Keeps R (set_chosen option on)
  keeps_set_chosen option on = record { at = λ w. c.controls _ w }

  keeps_set_message : (n : ℕ) (message : List ℕ) → Keeps R (set_message n message)
  keeps_set_message n message = record { at = λ w. c.controls _ w }

  keeps_ignored_or : {f : Step Work (Unit {0})} (ignored : Bool) → Keeps R f → Keeps R (ignored_or ignored f)
  keeps_ignored_or true h = keeps_give _
  keeps_ignored_or false h = keeps_seq h (keeps_give _)

  keeps_unless_ignored : {f : Step Work (Unit {0})} (by_user : Bool) (test : Page → Bool) → Keeps R f → Keeps R (unless_ignored by_user test f)
  keeps_unless_ignored by_user test h = keeps_bind (keeps_read_page _) (λ ignored. keeps_ignored_or ignored h)

  pub keeps_control_steps : (what : ControlDeed) → Keeps R (control_steps what)
  keeps_control_steps (Edit n text by_user) = keeps_unless_ignored by_user _ (keeps_set_value n text by_user)
  keeps_control_steps (Tick n on by_user) = keeps_unless_ignored by_user _ (keeps_set_checked n on)
  keeps_control_steps (Choose option on by_user) = keeps_unless_ignored by_user _ (keeps_set_chosen option on)
  keeps_control_steps (SetMessage n message) = keeps_seq (keeps_set_message n message) (keeps_give _)

  -- internals

  keeps_change_internals : (change : Page → List (Option Internals)) → Keeps R (change_page (λ p. with_internals (λ _. change p) p))
  keeps_change_internals change = record { at = λ w. c.internals _ w }

  keeps_attach_internals : (n : ℕ) → Keeps R (attach_internals n)
  keeps_attach_internals n = keeps_seq (keeps_refuse _) (keeps_change_internals _)

  keeps_set_form_value : (n : ℕ) (value saved : Value) → Keeps R (set_form_value n value saved)
  keeps_set_form_value n value saved = keeps_seq (keeps_refuse _) (keeps_change_internals _)

  keeps_set_validity : (n : ℕ) (flags : Flags) (message : List ℕ) → Keeps R (set_validity n flags message)
  keeps_set_validity n flags message = keeps_seq (keeps_refuse _) (keeps_change_internals _)

  keeps_change_states : (n : ℕ) (change : List (Option Internals) → List (Option Internals)) → Keeps R (change_states n change)
  keeps_change_states n change = keeps_seq (keeps_refuse _) (keeps_change_internals _)

  pub keeps_internals_steps : (what : InternalsDeed) → Keeps R (perform.internals_steps what)
  keeps_internals_steps (Attach n) = keeps_seq (keeps_attach_internals n) (keeps_give _)
  keeps_internals_steps (SetValue n value saved) = keeps_seq (keeps_set_form_value n value saved) (keeps_give _)
  keeps_internals_steps (SetValidity n flags message) = keeps_seq (keeps_set_validity n flags message) (keeps_give _)
  keeps_internals_steps (AddState n word) = keeps_seq (keeps_change_states n _) (keeps_give _)
  keeps_internals_steps (DeleteState n word) = keeps_seq (keeps_change_states n _) (keeps_give _)
  keeps_internals_steps (ClearStates n) = keeps_seq (keeps_change_states n _) (keeps_give _)

  -- forms

  keeps_clear : (n : ℕ) → Keeps R (change_page (λ p. with_controls (λ cs. reset cs p.forest n) p))
  keeps_clear n = record { at = λ w. c.controls _ w }

  keeps_reset_control : (n : ℕ) → Keeps R (reset_control n)
  keeps_reset_control n = keeps_seq (keeps_clear n) (keeps_where_is (λ w. is_custom_form_associated w.page n) (keeps_enqueue_callback n FormReset))

  pub keeps_reset_form : (form : ℕ) → Keeps R (reset_form form)
  keeps_reset_form form = keeps_bind (keeps_read_page _) (λ list. keeps_each list keeps_reset_control)

  keeps_restore : (n : ℕ) (text : List ℕ) (mode : Mode) → Keeps R (restore n text mode)
  keeps_restore n text mode = keeps_unless_ignored true _ (keeps_enqueue_callback n _)

  pub keeps_form_steps : (what : FormDeed) → Keeps R (perform.form_steps what)
  keeps_form_steps (Reset form by_user) = keeps_seq (keeps_reset_form form) (keeps_give _)
  keeps_form_steps (Restore n text mode) = keeps_restore n text mode

  -- construction

  pub keeps_pop_construction : (d : ℕ) → Keeps R (pop_construction d)
  keeps_pop_construction d = keeps_stacks _

  pub keeps_make_custom : (d : ℕ) (x : Definition) → Keeps R (make_custom d x)
  keeps_make_custom d x = search (page_steps, keeps_make_element) depth 12

  pub keeps_base_entry : (d : ℕ) (x : Definition) (entries : List (Option ℕ)) → Keeps R (base_entry d x entries)
  keeps_base_entry d x [] = keeps_make_custom d x
  keeps_base_entry d x (None ∷ entries) = keeps_throw _
  keeps_base_entry d x (Some n ∷ entries) = keeps_seq (keeps_stacks _) (keeps_give n)

  pub keeps_base_call : (class : ℕ) → Keeps R (base_call class)
  keeps_base_call class = search (page_steps, keeps_base_entry) depth 14

  -- upgrades

  pub keeps_enqueue_attribute : (n : ℕ) (a : List ℕ × List ℕ) → Keeps R (enqueue_attribute n a)
  keeps_enqueue_attribute n a = keeps_enqueue_callback n _

  pub keeps_begin_upgrade : (n d : ℕ) → Keeps R (begin_upgrade n d)
  keeps_begin_upgrade n d = search (page_steps, keeps_enqueue_attribute, keeps_enqueue_callback) depth 16

  -- what an operation does on the page: each deed by the same rules
  pub ruleset deed_steps = (
    page_steps,
    keeps_make_node,
    keeps_make_shadow_root,
    keeps_pre_insert,
    keeps_remove,
    keeps_adopt,
    keeps_set_attribute,
    keeps_remove_attribute,
    keeps_copy_node,
    keeps_copy_below,
    keeps_try_upgrade,
  )

  pub keeps_page_steps : (what : PageDeed) → Keeps R (perform.page_steps what)
  keeps_page_steps (page_deeds.Upgrade n) = search deed_steps depth 20
  keeps_page_steps what = search deed_steps depth 20
