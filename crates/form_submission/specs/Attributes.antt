-- What a form, or the button that submits it, says of the submission (HTML Standard, section "Form submission attributes").
use Rattle.std.specs.Prelude.{ℕ, Bool, ◌||◌, if◌then◌else◌, List, [], codes, Option, is_some, unwrap_or}
use Rattle.std.specs.Option.{option_or, option_and_then}
use Rattle.std.specs.Str.{str_eq_ignore_ascii_case}
use Rattle.node_trees.specs.Trees.{Trees}
use Rattle.node_trees.specs.Spots.{attribute_at}
use Rattle.form_controls.specs.Kinds.{has_attribute}

-- an attribute of the submitter, where there is one
abbrev pub said_by : Trees → Option ℕ → List ℕ → Option (List ℕ)
said_by forest submitter name = option_and_then (λ n. attribute_at forest n name) submitter

-- the submitter's attribute where it is present, else the form's, else the empty text
abbrev pub said : Trees → ℕ → Option ℕ → List ℕ → List ℕ → List ℕ
said forest form submitter its own = unwrap_or (option_or (said_by forest submitter its) (attribute_at forest form own)) []

-- "method"

pub data Method : Type 0 where
  GetMethod : Method
  PostMethod : Method
  DialogMethod : Method

abbrev pub method_named : List ℕ → Method
method_named text =
    if str_eq_ignore_ascii_case text (codes "post") then PostMethod
    else if str_eq_ignore_ascii_case text (codes "dialog") then DialogMethod
    else GetMethod

abbrev pub method_of : Trees → ℕ → Option ℕ → Method
method_of forest form submitter = method_named (said forest form submitter (codes "formmethod") (codes "method"))

-- "action"; the empty one names the page itself
abbrev pub action_of : Trees → ℕ → Option ℕ → List ℕ
action_of forest form submitter = said forest form submitter (codes "formaction") (codes "action")

-- "enctype"

pub data Encoding : Type 0 where
  Urlencoded : Encoding
  Multipart : Encoding
  PlainText : Encoding

abbrev pub encoding_named : List ℕ → Encoding
encoding_named text =
    if str_eq_ignore_ascii_case text (codes "multipart/form-data") then Multipart
    else if str_eq_ignore_ascii_case text (codes "text/plain") then PlainText
    else Urlencoded

abbrev pub encoding_of : Trees → ℕ → Option ℕ → Encoding
encoding_of forest form submitter = encoding_named (said forest form submitter (codes "formenctype") (codes "enctype"))

-- "no-validate state": the form or the submitter says that the controls are not validated
abbrev pub is_unvalidated : Trees → ℕ → Option ℕ → Bool
is_unvalidated forest form submitter =
    is_some (said_by forest submitter (codes "formnovalidate")) || has_attribute forest form (codes "novalidate")
