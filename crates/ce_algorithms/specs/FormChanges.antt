-- What a change of the trees changes of form owners and disabled states, and whom it tells
-- (HTML Standard, section "Custom element reactions": formAssociatedCallback, formDisabledCallback).
use Rattle.std.specs.Prelude.{ℕ, Bool, true, ◌==◌, not, List, filter, Option, Some, None}
use Rattle.node_trees.specs.Paths.{is_among}
use Rattle.reaction_queue.specs.declared.reaction.Reaction.TheVariants.{FormAssociated, FormDisabled}
use Rattle.form_controls.specs.declared.change.Change.{Change}
use Rattle.form_controls.specs.Changes.{form_changes as changes_between}
use Rattle.ce_algorithms.specs.Steps.{Step, ◌>>=◌, ◌>>◌, done, where_is, for_each}
use Rattle.ce_algorithms.specs.Page.{Page, Work, read_page, definition_of}
use Rattle.ce_algorithms.specs.Forms.{forms_of, form_owner, is_disabled, is_form_associated, is_custom_form_associated}
use Rattle.ce_algorithms.specs.Enqueue.{enqueue_callback}

-- what differs from one page to another, in the order of the nodes' numbers
abbrev pub form_changes : Page → Page → List Change
form_changes old new = changes_between (forms_of old) (forms_of new)

-- what is told of one element

abbrev pub tell_owner : ℕ → Option (Option ℕ) → Step Work (Unit {0})
tell_owner n None = done
tell_owner n (Some owner) = enqueue_callback n (FormAssociated owner)

abbrev pub tell_disabled : ℕ → Option Bool → Step Work (Unit {0})
tell_disabled n None = done
tell_disabled n (Some disabled) = enqueue_callback n (FormDisabled disabled)

-- the owner comes first
abbrev pub tell : Change → Step Work (Unit {0})
tell c = do
  tell_owner c.node c.owner
  tell_disabled c.node c.disabled

-- a custom form-associated element is told of its change
abbrev pub tell_form_change : Change → Step Work (Unit {0})
tell_form_change c = where_is (λ w. is_custom_form_associated w.page c.node) (tell c)

-- a node of a walk is told at its turn
abbrev pub tell_at_turn : List Change → ℕ → Step Work (Unit {0})
tell_at_turn changes n = for_each (filter (λ (c : Change). c.node == n) changes) tell_form_change

-- and those outside the walk after it
abbrev pub tell_others : List Change → List ℕ → Step Work (Unit {0})
tell_others changes walk = for_each (filter (λ (c : Change). not (is_among c.node walk)) changes) tell_form_change

-- an element that is upgraded

abbrev pub tell_first_owner : ℕ → Option ℕ → Step Work (Unit {0})
tell_first_owner n None = done
tell_first_owner n (Some form) = enqueue_callback n (FormAssociated (Some form))

abbrev pub tell_first : ℕ → Step Work (Unit {0})
tell_first n = do
  owner ← read_page (λ p. form_owner p n)
  tell_first_owner n owner
  where_is (λ w. is_disabled w.page n) (enqueue_callback n (FormDisabled true))

-- one that is form-associated is told of its form owner, where it has one, and that it is disabled, where it is ("upgrade an element")
abbrev pub tell_form : ℕ → Step Work (Unit {0})
tell_form n = where_is (λ w. is_form_associated (definition_of w.page n)) (tell_first n)
