-- What controls keep of what was set (HTML Standard, sections "A form control's value", "The input element", "The option element").
use Rattle.std.specs.Prelude.{ℕ, ◌-◌, Bool, false, List, [], slice_set, Some, None}
use Rattle.form_controls.specs.declared.control.Control.{Control}
use Rattle.form_controls.specs.Rows.{row_at, with_row}

-- nothing was set
abbrev pub untouched : Control
untouched = record { value = None; flag = None; edited = false; message = [] }

-- the controls of all nodes, that of node 1 first

abbrev pub control_at : List Control → ℕ → Control
control_at controls n = row_at untouched controls (n - 1)

abbrev pub change_control : List Control → ℕ → (Control → Control) → List Control
change_control controls n change = with_row untouched controls (n - 1) (change (control_at controls n))

-- what is set

-- the raw value, by the user or by a script
abbrev pub set_value : List Control → ℕ → List ℕ → Bool → List Control
set_value controls n text by_user = change_control controls n (λ c. record c { value = Some text; edited = by_user })

-- the checkedness of an input, or the selectedness of an option
abbrev pub set_flag : List Control → ℕ → Bool → List Control
set_flag controls n on = change_control controls n (λ c. record c { flag = Some on })

-- the custom validity error message (section "The constraint validation API", `setCustomValidity`)
abbrev pub set_message : List Control → ℕ → List ℕ → List Control
set_message controls n message = change_control controls n (λ c. record c { message = message })

-- what is told of a control

-- the user set its value last
abbrev pub is_edited : List Control → ℕ → Bool
is_edited controls n = (control_at controls n).edited

-- its custom validity error message
abbrev pub message_at : List Control → ℕ → List ℕ
message_at controls n = (control_at controls n).message

-- what others take over

-- the raw value and the checkedness of one control for another, with their dirty flags
abbrev pub copy_state : List Control → ℕ → ℕ → List Control
copy_state controls from to =
    change_control controls to (λ c. record c { value = (control_at controls from).value; flag = (control_at controls from).flag })

-- nothing was set but the message. Of a control on which nothing was set there is nothing to clear, and no row is written for it
abbrev pub clear : List Control → ℕ → List Control
clear controls n = slice_set controls (n - 1) (record untouched { message = (control_at controls n).message })
