-- A session that was run over some lines of its script.
use Rattle.std.specs.Prelude.{◌≡◌, ◌≢◌, ℕ, ◌+◌, false, ◌||◌, List, [], length, All}
use Rattle.std.specs.Io.KnownBytes.{Appends}
use Rattle.std.specs.declared.option.Option.{Option}
use Rattle.ce_events.specs.declared.event.Event.{Event}
use Rattle.ce_algorithms.specs.Lines.{last_part}
use Rattle.ce_algorithms.specs.Session.{start, log_of}
use Rattle.ce_events.specs.Text.{text}
use Rattle.ce_algorithms.specs.Written.{behind_in}
use Rattle.ce_machine.specs.declared.end.End.{End}
use Rattle.ce_machine.specs.declared.end.End.TheVariants.{Replied}
use Rattle.ce_machine.specs.Ended.{outcome_of}
use Rattle.script_runner.specs.Script.{has_bad, run_from, settings}
use Rattle.command_words.specs.declared.words.Options.{Options}
use Rattle.script_runner.specs.Sitting.{Sitting}

-- a session before its first line
abbrev pub fresh : Options → Sitting
fresh set = record { state = start (settings set); line = 0; bad = false; trace = set.trace }

-- the lines were run from one sitting to another, with these events
pub record Ran (from : Sitting) (lines : List (List ℕ)) (end : End) (to : Sitting) (events : List Event) : Type 0 where
  pub same : run_from (from.line + 1) lines from.state ≡ behind_in events (outcome_of end to.state)
  pub empty : to.state.log ≡ []
  pub trace : to.trace ≡ from.trace
  pub line : end ≡ Replied → to.line ≡ from.line + length lines
  pub bad : end ≡ Replied → to.bad ≡ (from.bad || has_bad lines)

-- and the text of the events was written
pub record Answered (from : Sitting) (lines : List (List ℕ)) (end : End) (to : Sitting) (held held' : Option (List ℕ)) : Type 0 where
  pub events : List Event
  pub ran : Ran from lines end to events
  pub wrote : Appends held held' (text from.trace events)

-- what these lines write
abbrev pub answers : Sitting → List (List ℕ) → List ℕ
answers s lines = text s.trace (log_of (run_from (s.line + 1) lines s.state))

-- of the bytes that were fed, no whole line is left
pub record Drained (before after : List ℕ) : Type 0 where
  pub part : after ≡ last_part before
  pub clean : All (λ b. b ≢ 10) after
