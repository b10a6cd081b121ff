-- What the status of a check says of the bytes that it took and wrote.
use Rattle.std.specs.Prelude.{ℕ, ◌≡◌, ◌≤◌, ◌<◌, ◌⊎◌, Bool, false, List, [], length, Result, Ok, Err}
use Rattle.std.specs.Io.KnownBytes.{Consumes, Appends}
use Rattle.std.specs.declared.option.Option.{Option}
use Rattle.ce_base.specs.Call.{Call, ReadsAll}
use Rattle.ce_base.specs.Faults.{Rose}
use Rattle.ce_base.specs.Outside.{IsPrefix}
use Rattle.ce_base.specs.declared.stop.Stop.{Stop}
use Rattle.ce_base.specs.declared.stop.Stop.TheVariants.{NoMemory as StopMemory, WriteFault as StopWrite}
use Rattle.ce_algorithms.specs.Lines.{lines_of}
use Rattle.trace_check.specs.Told.{line_of}
use Rattle.trace_check.specs.Verdict.{IsVerdict}
use Rattle.trace_check.specs.declared.status.CheckStatus.{CheckStatus}
use Rattle.trace_check.specs.declared.status.CheckStatus.TheVariants.{Lawful, Unlawful, Usage, ReadFault, WriteFault, NoMemory, TooLong}
use Rattle.trace_check.specs.declared.verdict.Verdict.{Verdict}
use Rattle.trace_check.specs.declared.verdict.Verdict.TheVariants.{Yes, No}

-- how many bytes a trace may have
abbrev pub limit : ℕ
limit = 67108864

-- the number of each status
abbrev pub number_of : CheckStatus → ℕ
number_of Lawful = 0
number_of Unlawful = 1
number_of Usage = 2
number_of ReadFault = 4
number_of WriteFault = 5
number_of NoMemory = 6
number_of TooLong = 7

-- the status of each verdict
abbrev pub status_of_verdict : Verdict → CheckStatus
status_of_verdict (Yes n) = Lawful
status_of_verdict (No n) = Unlawful

-- and where telling it stopped
abbrev pub status_of : Result Verdict Stop → CheckStatus
status_of (Ok v) = status_of_verdict v
status_of (Err StopWrite) = WriteFault
status_of (Err StopMemory) = NoMemory

-- the trace was read to its end, which is within the limit, and this is the verdict on its lines
abbrev pub Judges : Verdict → Call → Type 0
Judges v call = ReadsAll limit call × IsVerdict v (lines_of call.taken)

-- it was judged, and a front of the verdict's line was written
abbrev pub WritesPart : Call → Type 0
WritesPart call = (v : Verdict) × Judges v call × IsPrefix call.written (line_of v)

-- the row of each status
abbrev pub Row : CheckStatus → Call → Type 0
Row Lawful call = (n : ℕ) × Judges (Yes n) call × (call.written ≡ line_of (Yes n))
Row Unlawful call = (n : ℕ) × Judges (No n) call × (call.written ≡ line_of (No n))
Row Usage call = (call.taken ≡ []) × (call.written ≡ [])
Row ReadFault call = Rose call.source_before call.source_now × (length call.taken ≤ limit) × (call.ended ≡ false) × (call.written ≡ [])
Row WriteFault call = Rose call.sink_before call.sink_now × WritesPart call
Row NoMemory call = (length call.taken ≤ limit) × ((call.written ≡ []) ⊎ WritesPart call)
Row TooLong call = (limit < length call.taken) × (call.written ≡ [])

-- some bytes were taken and some were written, as far as both ends tell them, and the call is as its status says
pub record CheckMeets (status : CheckStatus) (left left' held held' : Option (List ℕ)) (ended : Bool)
    (source_before source_now sink_before sink_now : ℕ) : Type 0 where
  pub taken : List ℕ
  pub written : List ℕ
  pub took : Consumes left left' taken
  pub wrote : Appends held held' written
  pub row : Row status
      (record {
        taken = taken;
        written = written;
        ended = ended;
        left = left';
        source_before = source_before;
        source_now = source_now;
        sink_before = sink_before;
        sink_now = sink_now;
      })

-- the trace was judged, and the verdict told, whole; or memory was refused
abbrev pub ChecksWhole : List ℕ → CheckStatus → Option (List ℕ) → Option (List ℕ) → Type 0
ChecksWhole trace status held held' =
    ((v : Verdict) × IsVerdict v (lines_of trace) × (status ≡ status_of_verdict v) × Appends held held' (line_of v)) ⊎ (status ≡ NoMemory)
