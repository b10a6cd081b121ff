-- What the controls of these pages keep, and what is sent.
use Rattle.std.specs.Prelude.{ℕ, true, false, List, [], ◌∷◌, ◌++◌, codes, flat_map, Option}
use Rattle.form_controls.specs.declared.control.Control.{Control}
use Rattle.form_controls.specs.declared.internals.Internals.{Internals}
use Rattle.form_controls.specs.declared.value.Value.{Value}
use Rattle.form_controls.specs.declared.value.Value.TheVariants.{One, Many}
use Rattle.form_controls.specs.Controls.{set_value}
use Rattle.form_controls.specs.Setting.{set_checked, set_chosen}
use Rattle.form_controls.specs.Resetting.{clone_state, reset_controls}
use Rattle.form_controls.specs.Internals.{attach, set_form_value}
use Rattle.form_controls.specs.Worked.Told.{with_forest}
use Rattle.ce_base.specs.Texts.{entry}
use Rattle.form_submission.specs.LineEnds.{newline}
use Rattle.form_submission.specs.Worked.Button.{rating}
use Rattle.form_submission.specs.Worked.Groups.{pair, with_charset}

abbrev pub page : List ℕ
page = codes "http://page.test/"

-- a text of lines, each with its end
abbrev pub lines : List (List ℕ) → List ℕ
lines texts = flat_map (λ text. text ++ newline) texts

-- where a submission value stands alone, the state is the same
abbrev pub submits : ℕ → Value → List (Option Internals)
submits n value = set_form_value (attach [] n) n value value

-- a form that a button submits: the user edits two inputs and chooses the second option

abbrev pub filled_in : List Control
filled_in =
    set_chosen
    (set_value (set_value [] 4 (195 ∷ 129 ∷ codes "na Lee") true) 5 (codes "a+b=c") true)
    rating 9 true

abbrev pub four_stars : List (Option Internals)
four_stars = submits 10 (One (codes "4"))

-- a form of each encoding

abbrev pub two_lines : List Control
two_lines = set_value [] 4 (112 ∷ 10 ∷ 113 ∷ []) false

abbrev pub with_boundary : List Control
with_boundary = set_value two_lines 4 (codes "aXXb") false

abbrev pub two_entries : List (Option Internals)
two_entries = submits 5 (Many (entry (codes "u") (codes "1") ∷ entry (codes "v") [] ∷ []))

abbrev pub multipart_body : List ℕ
multipart_body = lines (
    codes "--XX"
    ∷ codes "Content-Disposition: form-data; name=\"a%22%0D%0A\""
    ∷ []
    ∷ codes "p"
    ∷ codes "q"
    ∷ codes "--XX"
    ∷ codes "Content-Disposition: form-data; name=\"u\""
    ∷ []
    ∷ codes "1"
    ∷ codes "--XX"
    ∷ codes "Content-Disposition: form-data; name=\"v\""
    ∷ []
    ∷ []
    ∷ codes "--XX--"
    ∷ [])

abbrev pub plain_body : List ℕ
plain_body = lines (codes "a\"" ∷ codes "=aXXb" ∷ codes "u=1" ∷ codes "v=" ∷ [])

-- radio buttons: the second is cloned from the first, a script sets the first on, and the form is reset

abbrev pub cloned : List Control
cloned = clone_state [] pair 4 5

abbrev pub first_on : List Control
first_on = set_checked (with_forest [] pair) cloned 4 true

abbrev pub reset_again : List Control
reset_again = reset_controls (with_forest [] with_charset) first_on 3

-- line ends of each kind

abbrev pub line_ends : List ℕ
line_ends = 97 ∷ 13 ∷ 98 ∷ 10 ∷ 99 ∷ 13 ∷ 10 ∷ 13 ∷ 13 ∷ 10 ∷ 10 ∷ []

abbrev pub full_line_ends : List ℕ
full_line_ends = lines (codes "a" ∷ codes "b" ∷ codes "c" ∷ [] ∷ [] ∷ [] ∷ [])
