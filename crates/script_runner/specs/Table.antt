-- What the status of a run says of the bytes that it took and wrote.
use Rattle.std.specs.Prelude.{ℕ, ◌≡◌, ◌≤◌, ◌<◌, nat_le, Bool, true, false, ◌&&◌, ◌⊎◌, if◌then◌else◌, List, [], ◌++◌, length, take, Result, Ok, Err}
use Rattle.std.specs.Io.KnownBytes.{Consumes, Appends, IsAtEnd}
use Rattle.std.specs.declared.option.Option.{Option}
use Rattle.ce_base.specs.Call.{Call, ReadsAll}
use Rattle.ce_base.specs.Faults.{Rose}
use Rattle.ce_base.specs.Outside.{IsPrefix}
use Rattle.ce_base.specs.Whole.{piece}
use Rattle.ce_base.specs.declared.stop.Stop.{Stop}
use Rattle.ce_base.specs.declared.stop.Stop.TheVariants.{NoMemory as StopMemory, WriteFault as StopWrite}
use Rattle.ce_events.specs.declared.event.Event.{Event}
use Rattle.ce_algorithms.specs.Lines.{whole_lines, lines_of}
use Rattle.ce_algorithms.specs.Steps.{is_spent}
use Rattle.ce_algorithms.specs.Session.{log_of}
use Rattle.ce_events.specs.Text.{text}
use Rattle.order_law.specs.Law.{Lawful}
use Rattle.ce_machine.specs.declared.end.End.{End}
use Rattle.ce_machine.specs.declared.end.End.TheVariants.{Replied, FuelSpent}
use Rattle.script_runner.specs.Script.{session, has_bad, settings}
use Rattle.script_runner.specs.Making.{MadeRow, made_session}
use Rattle.script_runner.specs.declared.status.Status.{Status}
use Rattle.script_runner.specs.declared.status.Status.TheVariants.{Done, BadLines, Usage, Fuel, ReadFault, WriteFault, NoMemory, TooLong}
use Rattle.command_words.specs.declared.words.Options.{Options}
use Rattle.command_words.specs.declared.words.Meaning.{Meaning}
use Rattle.command_words.specs.declared.words.Meaning.TheVariants.{Refused, Script, Made}

-- how many bytes a script may have
abbrev pub limit : ℕ
limit = 16777216

-- the number of each status
abbrev pub number_of : Status → ℕ
number_of Done = 0
number_of BadLines = 1
number_of Usage = 2
number_of Fuel = 3
number_of ReadFault = 4
number_of WriteFault = 5
number_of NoMemory = 6
number_of TooLong = 7

-- the lines that count: all of them where the source gave the end within the limit, else the whole ones within the limit
abbrev pub counted : Bool → List ℕ → List (List ℕ)
counted ended taken = if ended && nat_le (length taken) limit then lines_of taken else whole_lines (take limit taken)

abbrev pub lines_that_count : Call → List (List ℕ)
lines_that_count call = counted call.ended call.taken

-- the fuel was spent in the session of these lines
abbrev pub spends_all : Options → List (List ℕ) → Bool
spends_all set lines = is_spent (session (settings set) lines)

-- what the session of these lines logs, and what it writes of that
abbrev pub logged : Options → List (List ℕ) → List Event
logged set lines = log_of (session (settings set) lines)

abbrev pub transcript : Options → List (List ℕ) → List ℕ
transcript set lines = text set.trace (logged set lines)

-- the whole transcript was written, or a front of it
abbrev pub WritesAll : Options → Call → Type 0
WritesAll set call = call.written ≡ transcript set (lines_that_count call)

abbrev pub WritesPart : Options → Call → Type 0
WritesPart set call = IsPrefix call.written (transcript set (lines_that_count call))

-- the row of each status, where a script is run with these options
abbrev pub Row : Status → Options → Call → Type 0
Row Done set call = ReadsAll limit call × (spends_all set (lines_that_count call) ≡ false) × (has_bad (lines_that_count call) ≡ false) × WritesAll set call
Row BadLines set call = ReadsAll limit call × (spends_all set (lines_that_count call) ≡ false) × (has_bad (lines_that_count call) ≡ true) × WritesAll set call
Row Usage set call = ⊥
Row Fuel set call = (call.ended ≡ true → IsAtEnd call.left) × (spends_all set (lines_that_count call) ≡ true) × WritesAll set call
Row ReadFault set call = Rose call.source_before call.source_now × (length call.taken ≤ limit)
    × (spends_all set (lines_that_count call) ≡ false) × WritesAll set call
Row WriteFault set call = Rose call.sink_before call.sink_now × WritesPart set call
Row NoMemory set call = WritesPart set call
Row TooLong set call = (limit < length call.taken) × (spends_all set (lines_that_count call) ≡ false) × WritesAll set call

-- no more was taken than was needed: before the last piece the bytes were within the limit, and the fuel sufficed for their whole lines
pub record TakesOnlyNeeded (set : Options) (taken : List ℕ) : Type 0 where
  pub before : List ℕ
  pub last : List ℕ
  pub split : before ++ last ≡ taken
  pub short : length last ≤ piece
  pub within : length before ≤ limit
  pub goes : spends_all set (whole_lines before) ≡ false

-- the log whose transcript was written, or a front of it, keeps the law of order; so does each front of that log
abbrev pub KeepsOrder : Options → Call → Type 0
KeepsOrder set call = Lawful (logged set (lines_that_count call))

-- the call is as its words and its status say; memory may be refused while the words are read
abbrev pub IsAsSaid : Meaning → Status → Call → Type 0
IsAsSaid Refused status call = ((status ≡ Usage) ⊎ (status ≡ NoMemory)) × (call.taken ≡ []) × (call.written ≡ [])
IsAsSaid (Script set) status call = Row status set call × TakesOnlyNeeded set call.taken × KeepsOrder set call
IsAsSaid (Made n set) status call = MadeRow status set n call.sink_before call.sink_now call.written × (call.taken ≡ []) × Lawful (log_of (made_session set n))

-- some bytes were taken and some were written, as far as both ends tell them, and the call is as its words and its status say
pub record RunMeets (said : Meaning) (status : Status) (left left' held held' : Option (List ℕ)) (ended : Bool)
    (source_before source_now sink_before sink_now : ℕ) : Type 0 where
  pub taken : List ℕ
  pub written : List ℕ
  pub took : Consumes left left' taken
  pub wrote : Appends held held' written
  pub as_said : IsAsSaid said status
      (record {
        taken = taken;
        written = written;
        ended = ended;
        left = left';
        source_before = source_before;
        source_now = source_now;
        sink_before = sink_before;
        sink_now = sink_now;
      })

-- the status of a run whose script was read to its end
abbrev pub status_at : End → Bool → Status
status_at Replied bad = if bad then BadLines else Done
status_at FuelSpent bad = Fuel

abbrev pub script_status : Options → List (List ℕ) → Status
script_status set lines = if spends_all set lines then Fuel else (if has_bad lines then BadLines else Done)

-- a script was run whole: the status is its status, and its transcript was written; or memory was refused
abbrev pub RunsWhole : Options → List ℕ → Status → Option (List ℕ) → Option (List ℕ) → Type 0
RunsWhole set script status held held' =
    ((status ≡ script_status set (lines_of script)) × Appends held held' (transcript set (lines_of script))) ⊎ (status ≡ NoMemory)

-- the status of a run that stopped
abbrev pub status_of_stop : Stop → Status
status_of_stop StopMemory = NoMemory
status_of_stop StopWrite = WriteFault

abbrev pub status_of : Result Status Stop → Status
status_of (Ok status) = status
status_of (Err stop) = status_of_stop stop
