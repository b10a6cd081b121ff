-- What a call from another program asks for.
use Rattle.std.specs.Prelude.{ℕ, Bool, ◌&&◌, nat_eq, if◌then◌else◌, is_some, codes, List, [], ◌∷◌, ◌++◌, length, Some, None}
use Rattle.std.specs.Str.{is_utf8}
use Rattle.std.specs.declared.option.Option.{Option}
use Rattle.command_words.specs.Words.{as_fuel, meaning}
use Rattle.command_words.specs.declared.words.Meaning.{Meaning}
use Rattle.command_words.specs.declared.words.Meaning.TheVariants.{Refused, Script, Made}
use Rattle.command_words.specs.declared.words.Options.{Options}

-- the words of an option with this value; an empty value is no word
abbrev pub option_words : List ℕ → List ℕ → List (List ℕ)
option_words name value = if nat_eq (length value) 0 then [] else name ∷ value ∷ []

-- the words that say where the page stands
abbrev pub site_words : List ℕ → List ℕ → List (List ℕ)
site_words url boundary = option_words (codes "--url") url ++ option_words (codes "--boundary") boundary

-- what words mean, with so much fuel, and with the trace or without it
abbrev pub with_session : ℕ → Bool → Meaning → Option Options
with_session fuel trace Refused = None
with_session fuel trace (Script set) = Some (record set { fuel = fuel; trace = trace })
with_session fuel trace (Made n set) = None

-- an amount that a session may have, and texts
abbrev pub may_be : ℕ → List ℕ → List ℕ → Bool
may_be fuel url boundary = is_some (as_fuel (Some fuel)) && is_utf8 url && is_utf8 boundary

-- the options that are asked for; none where something is refused
abbrev pub asked : ℕ → Bool → List ℕ → List ℕ → Option Options
asked fuel trace url boundary = if may_be fuel url boundary then with_session fuel trace (meaning (site_words url boundary)) else None
