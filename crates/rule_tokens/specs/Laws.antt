-- What holds of what lines say.
use Rattle.std.specs.Prelude.{◌≡◌, ◌≢◌, ℕ, Bool, true, false, List, [], length, Option, Some, Result, Ok, Err}
use Rattle.std.specs.List.{list_all}
use Rattle.rule_tokens.specs.declared.refused.Bad.{Bad}
use Rattle.rule_tokens.specs.declared.token.Token.{Token}
use Rattle.rule_tokens.specs.Cases.{ReadsTo, RefusedFor}
use Rattle.rule_tokens.specs.Flags.{flag_names, flags, raised}
use Rattle.rule_tokens.specs.FlagsText.{flags_text, raised_names}
use Rattle.rule_tokens.specs.Spaced.{is_bare_byte}
use Rattle.rule_tokens.specs.Tokens.{tokens_of}

-- a line says one thing at most
abbrev pub SaidOnce : Type 0
SaidOnce = (limit : ℕ) (bytes : List ℕ) (x y : Option (List Token)) → ReadsTo limit bytes x → ReadsTo limit bytes y → x ≡ y

-- what is read is what the line says; a refusal is for the first case that holds
abbrev pub IsAnswer : ℕ → List ℕ → Result (Option (List Token)) Bad → Type 0
IsAnswer limit bytes (Ok said) = ReadsTo limit bytes said
IsAnswer limit bytes (Err b) = RefusedFor limit bytes b

-- each line is answered so by the function that computes
abbrev pub LinesAreAnswered : Type 0
LinesAreAnswered = (limit : ℕ) (bytes : List ℕ) → IsAnswer limit bytes (tokens_of limit bytes)

-- what a line says is what it computes
abbrev pub SaidIsRead : Type 0
SaidIsRead = (limit : ℕ) (bytes : List ℕ) (said : Option (List Token)) → ReadsTo limit bytes said → tokens_of limit bytes ≡ Ok said

-- the bare token that says validity flags
abbrev pub flags_token : List Bool → Token
flags_token fs = record { quoted = false; text = flags_text fs }

-- the canonical text of ten flags is read as those flags
abbrev pub FlagsAreRead : Type 0
FlagsAreRead = (fs : List Bool) → length fs ≡ 10 → flags (flags_token fs) ≡ Some fs

-- that text can stand in a bare token
abbrev pub FlagsAreBare : Type 0
FlagsAreBare = (fs : List Bool) → length fs ≡ 10 → (flags_text fs ≢ []) × (list_all is_bare_byte (flags_text fs) ≡ true)

-- what is read as flags is ten of them
abbrev pub FlagsAreTen : Type 0
FlagsAreTen = (t : Token) (fs : List Bool) → flags t ≡ Some fs → length fs ≡ 10

-- the names of those of ten flags that are raised raise them
abbrev pub FlagsAreNamed : Type 0
FlagsAreNamed = (fs : List Bool) → length fs ≡ 10 → raised (raised_names flag_names fs) ≡ fs
