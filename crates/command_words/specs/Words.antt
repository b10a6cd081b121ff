-- What the words of a call mean: options in any order, each at most once, its value in the next word or behind `=`.
use Rattle.std.specs.Prelude.{ℕ, Bool, true, false, not, ◌&&◌, ◌||◌, ◌==◌, nat_le, if◌then◌else◌}
use Rattle.std.specs.Prelude.{codes, List, [], ◌∷◌, length, Option, Some, None, is_some, unwrap_or, Ok, Err, bytes_eq}
use Rattle.std.specs.List.{after_first, before_first, list_any}
use Rattle.ce_base.specs.Digits.{number_in}
use Rattle.url.specs.Parser.{Parsed, parse_url}
use Rattle.url.specs.Parts.{Parts}
use Rattle.form_submission.specs.Encodings.{is_boundary}
use Rattle.form_submission.specs.Plans.{is_web}
use Rattle.command_words.specs.declared.words.Meaning.{Meaning}
use Rattle.command_words.specs.declared.words.Meaning.TheVariants.{Refused, Script, Made}
use Rattle.command_words.specs.declared.words.Options.{Options}

-- what words have chosen: each option that they set, with its value
pub record Chosen : Type 0 where
  pub fuel : Option ℕ
  pub boundary : Option (List ℕ)
  pub url : Option (List ℕ)
  pub trace : Bool
  pub make : Option ℕ

abbrev pub nothing : Chosen
nothing = record { fuel = None; boundary = None; url = None; trace = false; make = None }

-- ---- values

-- from 1 to 200,000
abbrev pub as_fuel : Option ℕ → Option ℕ
as_fuel None = None
as_fuel (Some n) = if nat_le 1 n && nat_le n 200000 then Some n else None

-- one to nine ASCII digits, which say how much
abbrev pub fuel_in : List ℕ → Option ℕ
fuel_in value = as_fuel (number_in value)

-- from 1 to 19,999
abbrev pub as_count : Option ℕ → Option ℕ
as_count None = None
as_count (Some n) = if nat_le 1 n && nat_le n 19999 then Some n else None

-- one to nine ASCII digits, which say of how many elements a script is made
abbrev pub count_in : List ℕ → Option ℕ
count_in value = as_count (number_in value)

-- it parsed, and its scheme is http or https
abbrev pub is_of_web : Parsed Parts → Bool
is_of_web (Ok url) = is_web url
is_of_web (Err e) = false

-- at most 4096 bytes, which parse as a URL of the web (URL Standard, "URL parser", without base)
abbrev pub is_page_url : List ℕ → Bool
is_page_url value = nat_le (length value) 4096 && is_of_web (parse_url None value)

-- ---- options: each is set to a value that it may have, and once

-- the amount, where there is one, is chosen
abbrev pub with_units : Option ℕ → Chosen → Option Chosen
with_units None chosen = None
with_units (Some units) chosen = Some (record chosen { fuel = Some units })

abbrev pub with_fuel : List ℕ → Chosen → Option Chosen
with_fuel value chosen = if is_some chosen.fuel then None else with_units (fuel_in value) chosen

abbrev pub with_boundary : List ℕ → Chosen → Option Chosen
with_boundary value chosen =
    if is_some chosen.boundary || not (is_boundary value) then None else Some (record chosen { boundary = Some value })

abbrev pub with_url : List ℕ → Chosen → Option Chosen
with_url value chosen =
    if is_some chosen.url || not (is_page_url value) then None else Some (record chosen { url = Some value })

abbrev pub with_trace : Chosen → Option Chosen
with_trace chosen = if chosen.trace then None else Some (record chosen { trace = true })

-- the number, where there is one, is chosen
abbrev pub with_count : Option ℕ → Chosen → Option Chosen
with_count None chosen = None
with_count (Some count) chosen = Some (record chosen { make = Some count })

abbrev pub with_make : List ℕ → Chosen → Option Chosen
with_make value chosen = if is_some chosen.make then None else with_count (count_in value) chosen

-- the names of the options that have a value
abbrev pub has_value : List ℕ → Bool
has_value name = bytes_eq name (codes "--fuel") || bytes_eq name (codes "--boundary") || bytes_eq name (codes "--url") || bytes_eq name (codes "--make")

-- the option of this name with this value
abbrev pub with_option : List ℕ → List ℕ → Chosen → Option Chosen
with_option name value chosen =
    if bytes_eq name (codes "--fuel") then with_fuel value chosen
    else if bytes_eq name (codes "--boundary") then with_boundary value chosen
    else if bytes_eq name (codes "--url") then with_url value chosen
    else if bytes_eq name (codes "--make") then with_make value chosen
    else None

-- ---- words

abbrev pub is_equals_sign : ℕ → Bool
is_equals_sign b = b == 61

-- a word that needs no other one: `--trace`, or an option with its value behind `=`
abbrev pub with_word : List ℕ → Chosen → Option Chosen
with_word word chosen =
    if bytes_eq word (codes "--trace") then with_trace chosen
    else if list_any is_equals_sign word then with_option (before_first is_equals_sign word) (after_first is_equals_sign word) chosen
    else None

-- what follows, where the word before it may stand there
abbrev pub and_then : Option Chosen → (Chosen → Option Chosen) → Option Chosen
and_then None next = None
and_then (Some chosen) next = next chosen

-- the words one after the other: an option that has a value takes it from the next word
abbrev pub read : List (List ℕ) → Chosen → Option Chosen
read [] chosen = Some chosen
read (word ∷ []) chosen = if has_value word then None else with_word word chosen
read (word ∷ next ∷ words) chosen =
    if has_value word then and_then (with_option word next chosen) (read words)
    else and_then (with_word word chosen) (read (next ∷ words))

-- what is chosen; what no word set is as it is by default
abbrev pub options_of : Chosen → Options
options_of chosen = record {
  fuel = unwrap_or chosen.fuel 20000;
  site = record { url = unwrap_or chosen.url (codes "http://page.test/"); boundary = unwrap_or chosen.boundary (codes "cepageboundary") };
  trace = chosen.trace;
}

-- with a number a script is made, of which no trace is shown; else the script of the source is run
abbrev pub meaning_with : Option ℕ → Chosen → Meaning
meaning_with None chosen = Script (options_of chosen)
meaning_with (Some count) chosen = if chosen.trace then Refused else Made count (options_of chosen)

abbrev pub meaning_of : Chosen → Meaning
meaning_of chosen = meaning_with chosen.make chosen

abbrev pub meaning_by : Option Chosen → Meaning
meaning_by None = Refused
meaning_by (Some chosen) = meaning_of chosen

abbrev pub meaning : List (List ℕ) → Meaning
meaning words = meaning_by (read words nothing)
