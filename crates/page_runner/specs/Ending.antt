-- What a script comes to, however long it is.
use Rattle.std.specs.Prelude.{◌≡◌, ◌⊎◌, ℕ, true, if◌then◌else◌, nat_lt, List, length}
use Rattle.std.specs.Io.KnownBytes.{Appends}
use Rattle.std.specs.declared.option.Option.{Option}
use Rattle.command_words.specs.declared.words.Options.{Options}
use Rattle.script_runner.specs.Script.{has_bad}
use Rattle.script_runner.specs.Table.{counted, limit, spends_all, transcript}
use Rattle.script_runner.specs.declared.status.Status.{Status}
use Rattle.script_runner.specs.declared.status.Status.TheVariants.{Done, BadLines, Fuel, NoMemory, TooLong}

-- the lines that count: all of them where the script is within the limit, else the whole ones within it
abbrev pub script_lines : List ℕ → List (List ℕ)
script_lines script = counted true script

abbrev pub script_transcript : Options → List ℕ → List ℕ
script_transcript set script = transcript set (script_lines script)

-- the status of a run that nothing disturbs
abbrev pub end_status : Options → List ℕ → Status
end_status set script =
    if spends_all set (script_lines script) then Fuel
    else if nat_lt limit (length script) then TooLong
    else if has_bad (script_lines script) then BadLines
    else Done

-- nothing disturbed the run: the status is that one, and the transcript was written whole; or memory was refused
abbrev pub Ends : Options → List ℕ → Status → Option (List ℕ) → Option (List ℕ) → Type 0
Ends set script status held held' = ((status ≡ end_status set script) × Appends held held' (script_transcript set script)) ⊎ (status ≡ NoMemory)
