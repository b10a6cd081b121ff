-- What is set on controls, by a script and by the user (HTML Standard, sections "The input element", "The option element", "The select element").
use Rattle.std.specs.Prelude.{ℕ, Bool, true, false, ◌&&◌, List}
use Rattle.form_controls.specs.Controls as controls
use Rattle.form_controls.specs.Setting as setting
use Rattle.form_controls.specs.Setting.{is_edit_ignored, is_tick_ignored, is_choice_ignored}
use Rattle.form_controls.specs.Resetting.{clone_state}
use Rattle.ce_algorithms.specs.declared.deed.ControlDeed.{ControlDeed}
use Rattle.ce_algorithms.specs.declared.deed.ControlDeed.TheVariants.{Edit, Tick, Choose, SetMessage}
use Rattle.ce_algorithms.specs.declared.given.Given.{Given}
use Rattle.ce_algorithms.specs.declared.given.Given.TheVariants.{Nothing, Ignored}
use Rattle.ce_algorithms.specs.Steps.{Step, ◌>>=◌, ◌>>◌, give}
use Rattle.ce_algorithms.specs.Page.{Page, Work, read_page, change_page, with_controls}
use Rattle.ce_algorithms.specs.Forms.{forms_of}

-- what is set

-- the raw value of a text control
abbrev pub set_value : ℕ → List ℕ → Bool → Step Work (Unit {0})
set_value n text by_user = change_page (with_controls (λ cs. controls.set_value cs n text by_user))

-- a checkbox or a radio button; a radio button that is set on sets the others of its group off
abbrev pub set_checked : ℕ → Bool → Step Work (Unit {0})
set_checked n on = change_page (λ p. with_controls (λ cs. setting.set_checked (forms_of p) cs n on) p)

-- an option; one that is chosen sets the others of its select off, unless that is `multiple`
abbrev pub set_chosen : ℕ → Bool → Step Work (Unit {0})
set_chosen option on = change_page (λ p. with_controls (λ cs. setting.set_chosen cs p.forest option on) p)

-- the custom validity error message (section "The constraint validation API", `setCustomValidity`)
abbrev pub set_message : ℕ → List ℕ → Step Work (Unit {0})
set_message n message = change_page (with_controls (λ cs. controls.set_message cs n message))

-- what the user may not do

abbrev pub ignored_or : {S : Type 0} → Bool → Step S (Unit {0}) → Step S Given
ignored_or true step = give Ignored
ignored_or false step = do
  step
  give Nothing

-- what the user may not do is ignored; a script may do it
abbrev pub unless_ignored : Bool → (Page → Bool) → Step Work (Unit {0}) → Step Work Given
unless_ignored by_user test step = do
  ignored ← read_page (λ p. by_user && test p)
  ignored_or ignored step

-- the steps of a deed on controls. None reacts, wants fuel or throws
abbrev pub control_steps : ControlDeed → Step Work Given
control_steps (Edit n text by_user) = unless_ignored by_user (λ p. is_edit_ignored (forms_of p) n) (set_value n text by_user)
control_steps (Tick n on by_user) = unless_ignored by_user (λ p. is_tick_ignored (forms_of p) n) (set_checked n on)
control_steps (Choose option on by_user) = unless_ignored by_user (λ p. is_choice_ignored (forms_of p) option) (set_chosen option on)
control_steps (SetMessage n message) = do
  set_message n message
  give Nothing

-- cloning

-- an input or a textarea hands its raw value and its checkedness on to its copy (sections "The input element", "The textarea element", "cloning steps")
abbrev pub copy_control : ℕ → ℕ → Step Work (Unit {0})
copy_control from to = change_page (λ p. with_controls (λ cs. clone_state cs p.forest from to) p)
