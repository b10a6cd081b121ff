-- What ElementInternals keeps of elements: submission values, states, validity flags with a message, custom states (HTML
-- Standard, section "Element internals").
use Rattle.std.specs.Prelude.{ℕ, Bool, true, false, List, Option, Some, None, is_some}
use Rattle.ce_base.specs.declared.custom_state.CustomState.{CustomState}
use Rattle.ce_base.specs.declared.custom_state.CustomState.TheVariants.{Precustomized, Custom}
use Rattle.ce_base.specs.declared.flags.Flags.{Flags}
use Rattle.node_trees.specs.Spots.{facts_at}
use Rattle.form_controls.specs.declared.attach.Attach.{Attach}
use Rattle.form_controls.specs.declared.internals.Internals.{Internals}
use Rattle.form_controls.specs.declared.value.Value.{Value}
use Rattle.form_controls.specs.Internals as inner
use Rattle.form_controls.specs.Internals.{may_attach, may_change_states, may_set_validity, may_write}
use Rattle.ce_algorithms.specs.Steps.{Step, ◌>>◌, refuse}
use Rattle.ce_algorithms.specs.Page.{Page, Work, change_page, definition_at, definition_of, state_of, with_internals}
use Rattle.ce_algorithms.specs.Enqueue.{lookup_for}
use Rattle.ce_algorithms.specs.Forms.{is_form_associated}

-- attaching (`attachInternals`)

abbrev pub is_ready_state : CustomState → Bool
is_ready_state Precustomized = true
is_ready_state Custom = true
is_ready_state state = false

abbrev pub disables_internals : Page → Option ℕ → Bool
disables_internals p None = false
disables_internals p (Some d) = (definition_at p d).facts.no_internals

-- what is tested of an element: its `is` value, the definition that the look-up gives, whether that disables internals, and whether the element is constructed
abbrev pub attach_of : Page → ℕ → Attach
attach_of p n = record {
  has_is = is_some (facts_at p.forest n).is_value;
  found = is_some (lookup_for p n);
  off = disables_internals p (lookup_for p n);
  ready = is_ready_state (state_of p n);
}

abbrev pub attach_internals : ℕ → Step Work (Unit {0})
attach_internals n = do
  refuse (λ w. may_attach w.page.internals n (attach_of w.page n))
  change_page (with_internals (λ is. inner.attach is n))

-- the submission value and the state (`setFormValue`)
abbrev pub set_form_value : ℕ → Value → Value → Step Work (Unit {0})
set_form_value n value saved = do
  refuse (λ w. may_write w.page.internals n (is_form_associated (definition_of w.page n)))
  change_page (with_internals (λ is. inner.set_form_value is n value saved))

-- all validity flags and their message (`setValidity`)
abbrev pub set_validity : ℕ → Flags → List ℕ → Step Work (Unit {0})
set_validity n flags message = do
  refuse (λ w. may_set_validity w.page.internals n (is_form_associated (definition_of w.page n)) flags message)
  change_page (with_internals (λ is. inner.set_validity is n flags message))

-- custom states (section "Custom state pseudo-class", `CustomStateSet`)

abbrev pub change_states : ℕ → (List (Option Internals) → List (Option Internals)) → Step Work (Unit {0})
change_states n change = do
  refuse (λ w. may_change_states w.page.internals n)
  change_page (with_internals change)

abbrev pub add_state : ℕ → List ℕ → Step Work (Unit {0})
add_state n word = change_states n (λ is. inner.add_state is n word)

abbrev pub delete_state : ℕ → List ℕ → Step Work (Unit {0})
delete_state n word = change_states n (λ is. inner.delete_state is n word)

abbrev pub clear_states : ℕ → Step Work (Unit {0})
clear_states n = change_states n (λ is. inner.clear_states is n)
