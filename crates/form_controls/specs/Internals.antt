-- What ElementInternals keeps of elements (HTML Standard, section "Element internals").
use Rattle.std.specs.Prelude.{ℕ, ◌-◌, Bool, false, if◌then◌else◌, not, ◌&&◌, List, [], ◌∷◌, ◌++◌, filter, bytes_eq, Option, Some, None, is_some, unwrap_or}
use Rattle.std.specs.List.{list_any}
use Rattle.std.specs.Option.{option_or}
use Rattle.ce_base.specs.declared.fault.Fault.{Fault}
use Rattle.ce_base.specs.declared.fault.Fault.TheVariants.{TypeError, NotSupportedError}
use Rattle.ce_base.specs.declared.flags.Flags.{Flags}
use Rattle.form_controls.specs.declared.attach.Attach.{Attach}
use Rattle.form_controls.specs.declared.internals.Internals.{Internals}
use Rattle.form_controls.specs.declared.value.Value.{Value}
use Rattle.form_controls.specs.declared.value.Value.TheVariants.{Nothing}
use Rattle.form_controls.specs.Rows.{row_at, with_row}
use Rattle.form_controls.specs.Texts.{is_empty}

-- validity flags, in the order of their declaration

abbrev pub flags_of : List Bool → Flags
flags_of bits = record { 0 = bits }

abbrev pub no_flags : Flags
no_flags = flags_of (false ∷ false ∷ false ∷ false ∷ false ∷ false ∷ false ∷ false ∷ false ∷ false ∷ [])

-- some flag is set
abbrev pub is_raised : Flags → Bool
is_raised flags = list_any (λ (b : Bool). b) flags.0

-- internals

-- as they are attached
abbrev pub new_internals : Internals
new_internals = record { value = Nothing; saved = Nothing; flags = no_flags; message = []; states = [] }

-- those of an element, where it has some; of all nodes, that of node 1 first
abbrev pub internals_at : List (Option Internals) → ℕ → Option Internals
internals_at internals n = row_at None internals (n - 1)

abbrev pub is_attached : List (Option Internals) → ℕ → Bool
is_attached internals n = is_some (internals_at internals n)

-- an element without internals has no value, no state, no flag, no message and no custom states
abbrev pub kept_by : List (Option Internals) → ℕ → Internals
kept_by internals n = unwrap_or (internals_at internals n) new_internals

abbrev pub with_internals : List (Option Internals) → ℕ → Internals → List (Option Internals)
with_internals internals n i = with_row None internals (n - 1) (Some i)

abbrev pub change_internals : List (Option Internals) → ℕ → (Internals → Internals) → List (Option Internals)
change_internals internals n change = with_internals internals n (change (kept_by internals n))

-- attaching (section "Element internals", `attachInternals`)

-- the tests in their order: an `is` value, no definition, one that disables internals, internals that are there, a state that is
-- neither precustomized nor custom
abbrev pub may_attach : List (Option Internals) → ℕ → Attach → Option Fault
may_attach internals n a =
    if a.has_is then Some NotSupportedError
    else if not a.found then Some NotSupportedError
    else if a.off then Some NotSupportedError
    else if is_attached internals n then Some NotSupportedError
    else if not a.ready then Some NotSupportedError
    else None

abbrev pub attach : List (Option Internals) → ℕ → List (Option Internals)
attach internals n = with_internals internals n new_internals

-- the submission value and the state ("setFormValue")

-- what a form-associated custom element alone may write: first the internals are wanted
abbrev pub may_write : List (Option Internals) → ℕ → Bool → Option Fault
may_write internals n associated =
    if not (is_attached internals n) then Some TypeError
    else if not associated then Some NotSupportedError
    else None

-- a state that is left out is the value
abbrev pub state_or : Value → Option Value → Value
state_or value state = unwrap_or state value

abbrev pub set_form_value : List (Option Internals) → ℕ → Value → Value → List (Option Internals)
set_form_value internals n value saved = change_internals internals n (λ i. record i { value = value; saved = saved })

-- validity ("setValidity")

-- a flag wants a message
abbrev pub may_set_validity : List (Option Internals) → ℕ → Bool → Flags → List ℕ → Option Fault
may_set_validity internals n associated flags message =
    option_or (may_write internals n associated) (if is_raised flags && is_empty message then Some TypeError else None)

-- each flag becomes what is given; where none of them is set, no message is kept
abbrev pub set_validity : List (Option Internals) → ℕ → Flags → List ℕ → List (Option Internals)
set_validity internals n flags message =
    change_internals internals n (λ i. record i { flags = flags; message = if is_raised flags then message else [] })

-- custom states, an ordered set (section "Custom state pseudo-class", `CustomStateSet`)

abbrev pub may_change_states : List (Option Internals) → ℕ → Option Fault
may_change_states internals n = if is_attached internals n then None else Some TypeError

-- one that is there stays where it is
abbrev pub with_state : List (List ℕ) → List ℕ → List (List ℕ)
with_state states s = if list_any (bytes_eq s) states then states else states ++ s ∷ []

abbrev pub without_state : List (List ℕ) → List ℕ → List (List ℕ)
without_state states s = filter (λ other. not (bytes_eq other s)) states

abbrev pub add_state : List (Option Internals) → ℕ → List ℕ → List (Option Internals)
add_state internals n s = change_internals internals n (λ i. record i { states = with_state i.states s })

abbrev pub delete_state : List (Option Internals) → ℕ → List ℕ → List (Option Internals)
delete_state internals n s = change_internals internals n (λ i. record i { states = without_state i.states s })

abbrev pub clear_states : List (Option Internals) → ℕ → List (Option Internals)
clear_states internals n = change_internals internals n (λ i. record i { states = [] })
