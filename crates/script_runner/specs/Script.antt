-- A script: what its lines say, and the session that they make.
use Rattle.std.specs.Prelude.{ℕ, Bool, true, false, List, map, Result, Ok, Err}
use Rattle.std.specs.List.{list_any}
use Rattle.rule_tokens.specs.declared.refused.Bad.{Bad}
use Rattle.rule_lines.specs.Acts.{Said}
use Rattle.rule_script.specs.Reading.{longest, reading}
use Rattle.ce_algorithms.specs.declared.settings.Settings.{Settings}
use Rattle.command_words.specs.declared.words.Options.{Options}
use Rattle.ce_algorithms.specs.Model.{model}
use Rattle.ce_algorithms.specs.Session.{run_lines, start}
use Rattle.ce_algorithms.specs.State.{State}
use Rattle.ce_algorithms.specs.Steps.{Step, Outcome}

-- a line that was refused
abbrev pub is_bad : Result Said Bad → Bool
is_bad (Ok line) = false
is_bad (Err bad) = true

-- what the lines say, each of them read
abbrev pub readings : List (List ℕ) → List (Result Said Bad)
readings lines = map (reading longest) lines

-- some line is refused
abbrev pub has_bad : List (List ℕ) → Bool
has_bad lines = list_any is_bad (readings lines)

-- the lines from this number on
abbrev pub run_from : ℕ → List (List ℕ) → Step State (Unit {0})
run_from number lines = run_lines model number (readings lines)

-- the settings of a session that is run with these options
abbrev pub settings : Options → Settings
settings set = record { fuel = set.fuel; site = set.site }

-- the session of the lines of a script
abbrev pub session : Settings → List (List ℕ) → Outcome State (Unit {0})
session with_settings lines = run_from 1 lines (start with_settings)
