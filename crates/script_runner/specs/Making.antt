-- What the status of a run says of a script that was made, and of the summary that was written.
use Rattle.std.specs.Prelude.{ℕ, ◌≡◌, ◌-◌, Bool, true, false, if◌then◌else◌, List}
use Rattle.std.specs.Io.KnownBytes.{Appends}
use Rattle.std.specs.Prelude.{◌⊎◌}
use Rattle.std.specs.declared.option.Option.{Option}
use Rattle.ce_base.specs.Faults.{Rose}
use Rattle.ce_base.specs.Outside.{IsPrefix}
use Rattle.made_scripts.specs.Made.{made_script, line_count}
use Rattle.made_scripts.specs.Summary.{summary}
use Rattle.ce_algorithms.specs.Lines.{lines_of}
use Rattle.ce_algorithms.specs.State.{State}
use Rattle.ce_algorithms.specs.Steps.{Outcome, Goes, Throws, Spent, is_spent}
use Rattle.ce_algorithms.specs.Session.{log_of}
use Rattle.ce_events.specs.Text.{text}
use Rattle.ce_machine.specs.declared.end.End.{End}
use Rattle.ce_machine.specs.declared.end.End.TheVariants.{Replied, FuelSpent}
use Rattle.script_runner.specs.Script.{session, settings}
use Rattle.script_runner.specs.declared.status.Status.{Status}
use Rattle.script_runner.specs.declared.status.Status.TheVariants.{Done, BadLines, Usage, Fuel, ReadFault, WriteFault, NoMemory, TooLong}
use Rattle.command_words.specs.declared.words.Options.{Options}

-- the lines of the made script of n
abbrev pub made : ℕ → List (List ℕ)
made n = lines_of (made_script n)

-- the session of that script
abbrev pub made_session : Options → ℕ → Outcome State (Unit {0})
made_session set n = session (settings set) (made n)

-- the fuel that is left
abbrev pub fuel_left : Outcome State (Unit {0}) → ℕ
fuel_left (Goes a s) = s.fuel
fuel_left (Throws f s) = s.fuel
fuel_left (Spent s) = s.fuel

abbrev pub says_spent : End → Bool
says_spent Replied = false
says_spent FuelSpent = true

-- the summary of that session: the figures of its transcript, and what fuel it used
abbrev pub summary_of : Options → ℕ → Outcome State (Unit {0}) → List ℕ
summary_of set n o = summary n (line_count n) (text set.trace (log_of o)) (set.fuel - fuel_left o) (is_spent o)

abbrev pub made_summary : Options → ℕ → List ℕ
made_summary set n = summary_of set n (made_session set n)

-- the row of each status, where the made script of n is run with these options, and these bytes are written
abbrev pub MadeRow : Status → Options → ℕ → ℕ → ℕ → List ℕ → Type 0
MadeRow Done set n before now written = (is_spent (made_session set n) ≡ false) × (written ≡ made_summary set n)
MadeRow BadLines set n before now written = ⊥
MadeRow Usage set n before now written = ⊥
MadeRow Fuel set n before now written = (is_spent (made_session set n) ≡ true) × (written ≡ made_summary set n)
MadeRow ReadFault set n before now written = ⊥
MadeRow WriteFault set n before now written = Rose before now × IsPrefix written (made_summary set n)
MadeRow NoMemory set n before now written = IsPrefix written (made_summary set n)
MadeRow TooLong set n before now written = ⊥

-- some bytes were written, as far as the sink tells them, and they are as the status says
pub record MadeMeets (set : Options) (n : ℕ) (status : Status) (held held' : Option (List ℕ)) (before now : ℕ) : Type 0 where
  pub written : List ℕ
  pub wrote : Appends held held' written
  pub row : MadeRow status set n before now written

-- the status of a made script that was run whole
abbrev pub made_status : Options → ℕ → Status
made_status set n = if is_spent (made_session set n) then Fuel else Done

-- a made script was run whole: the status is its status, and its summary was written; or memory was refused
abbrev pub RunsMade : Options → ℕ → Status → Option (List ℕ) → Option (List ℕ) → Type 0
RunsMade set n status held held' = ((status ≡ made_status set n) × Appends held held' (made_summary set n)) ⊎ (status ≡ NoMemory)
