-- Resetting forms, and states that come back (HTML Standard, sections "Resetting a form" and "Custom element reactions").
use Rattle.std.specs.Prelude.{ℕ, true, List}
use Rattle.reaction_queue.specs.declared.reaction.Mode.{Mode}
use Rattle.reaction_queue.specs.declared.reaction.Reaction.TheVariants.{FormReset, FormStateRestore}
use Rattle.form_controls.specs.Resetting as resetting
use Rattle.ce_algorithms.specs.declared.given.Given.{Given}
use Rattle.ce_algorithms.specs.Steps.{Step, ◌>>=◌, ◌>>◌, for_each, where_is}
use Rattle.ce_algorithms.specs.Page.{Work, change_page, read_page, with_controls}
use Rattle.ce_algorithms.specs.Enqueue.{enqueue_callback}
use Rattle.ce_algorithms.specs.Forms.{controls_of, is_custom_form_associated, is_disabled}
use Rattle.ce_algorithms.specs.Controls.{unless_ignored}

-- "reset algorithm": what a control keeps is cleared, but for its message, and a custom form-associated element is told
abbrev pub reset_control : ℕ → Step Work (Unit {0})
reset_control n = do
  change_page (λ p. with_controls (λ cs. resetting.reset cs p.forest n) p)
  where_is (λ w. is_custom_form_associated w.page n) (enqueue_callback n FormReset)

-- "reset a form": its controls, in tree order
abbrev pub reset_form : ℕ → Step Work (Unit {0})
reset_form form = do
  list ← read_page (λ p. controls_of p form)
  for_each list reset_control

-- a state comes back, or is filled in (formStateRestoreCallback); a disabled element ignores it
abbrev pub restore : ℕ → List ℕ → Mode → Step Work Given
restore n text mode = unless_ignored true (λ p. is_disabled p n) (enqueue_callback n (FormStateRestore text mode))
