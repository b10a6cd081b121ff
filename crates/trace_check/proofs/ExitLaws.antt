-- What is true of a check at each of its ends.
use Rattle.std.proofs.Common.{◌≡◌, ◌≤◌, ℕ, Bool, true, List, [], length, Some, Result, Ok, Err, refl, subst, arith}
use Rattle.std.proofs.Common.{inl, inr}
use Rattle.std.proofs.KnownBytes.{Consumes-whole}
use Rattle.std.specs.Io.KnownBytes.{Consumes, Appends, IsAtEnd}
use Rattle.std.specs.declared.option.Option.{Option}
use Rattle.ce_base.specs.Call.{Call}
use Rattle.ce_base.specs.Faults.{Rose}
use Rattle.ce_base.specs.Whole.{ReadMeets}
use Rattle.ce_base.specs.declared.stop.Stop.{Stop}
use Rattle.ce_base.specs.declared.stop.Stop.TheVariants.{NoMemory as StopMemory, WriteFault as StopWrite}
use Rattle.ce_base.specs.declared.whole.Read.TheVariants.{Whole}
use Rattle.ce_base.proofs.Pieces.{took_within}
use Rattle.ce_algorithms.specs.Lines.{lines_of}
use Rattle.trace_check.specs.Table.{CheckMeets, ChecksWhole, Judges, Row, limit, status_of}
use Rattle.trace_check.specs.Told.{TellsVerdict, line_of}
use Rattle.trace_check.specs.Verdict.{IsVerdict}
use Rattle.trace_check.specs.declared.status.CheckStatus.{CheckStatus}
use Rattle.trace_check.specs.declared.status.CheckStatus.TheVariants.{Lawful, Unlawful, Usage, ReadFault, WriteFault, NoMemory, TooLong}
use Rattle.trace_check.specs.declared.verdict.Verdict.{Verdict}
use Rattle.trace_check.specs.declared.verdict.Verdict.TheVariants.{Yes, No}

-- the trace was read to its end, and this is the verdict on it
judges : (v : Verdict) (bytes : List ℕ) (call : Call) → bytes ≡ call.taken → call.ended ≡ true → IsAtEnd call.left → length call.taken ≤ limit
    → IsVerdict v (lines_of bytes)
    → Judges v call
judges v bytes call same ended end within is = ((ended, end, within), subst (λ (t : List ℕ). IsVerdict v (lines_of t)) same is)

pub meets_whole : (bytes : List ℕ) (r : Result Verdict Stop) (left left' held held' : Option (List ℕ)) (ended : Bool) (sb sn kb kn : ℕ)
    → ReadMeets limit (Ok (Whole bytes)) left left' ended sb sn → TellsVerdict (lines_of bytes) r held held' kb kn
    → CheckMeets (status_of r) left left' held held' ended sb sn kb kn
meets_whole bytes (Ok (Yes n)) left left' held held' ended sb sn kb kn read told =
    let call : Call = record {
      taken = read.taken;
      written = line_of (Yes n);
      ended = ended;
      left = left';
      source_before = sb;
      source_now = sn;
      sink_before = kb;
      sink_now = kn;
    } in
    record {
      taken = read.taken;
      written = line_of (Yes n);
      took = read.took;
      wrote = told.1;
      row = (n, judges (Yes n) bytes call read.row.0 read.row.1 read.row.2 read.row.3 told.0, refl);
    }
meets_whole bytes (Ok (No n)) left left' held held' ended sb sn kb kn read told =
    let call : Call = record {
      taken = read.taken;
      written = line_of (No n);
      ended = ended;
      left = left';
      source_before = sb;
      source_now = sn;
      sink_before = kb;
      sink_now = kn;
    } in
    record {
      taken = read.taken;
      written = line_of (No n);
      took = read.took;
      wrote = told.1;
      row = (n, judges (No n) bytes call read.row.0 read.row.1 read.row.2 read.row.3 told.0, refl);
    }
meets_whole bytes (Err StopWrite) left left' held held' ended sb sn kb kn read told =
    let v = told.1.0 in
    let part = told.1.2 in
    let call : Call = record {
      taken = read.taken;
      written = part.0;
      ended = ended;
      left = left';
      source_before = sb;
      source_now = sn;
      sink_before = kb;
      sink_now = kn;
    } in
    record {
      taken = read.taken;
      written = part.0;
      took = read.took;
      wrote = part.2;
      row = (told.0, (v, judges v bytes call read.row.0 read.row.1 read.row.2 read.row.3 told.1.1, part.1));
    }
meets_whole bytes (Err StopMemory) left left' held held' ended sb sn kb kn read (inl wrote) =
    record { taken = read.taken; written = []; took = read.took; wrote = wrote; row = (read.row.3, inl refl) }
meets_whole bytes (Err StopMemory) left left' held held' ended sb sn kb kn read (inr told) =
    let v = told.0 in
    let part = told.2 in
    let call : Call = record {
      taken = read.taken;
      written = part.0;
      ended = ended;
      left = left';
      source_before = sb;
      source_now = sn;
      sink_before = kb;
      sink_now = kn;
    } in
    record {
      taken = read.taken;
      written = part.0;
      took = read.took;
      wrote = part.2;
      row = (read.row.3, inr (v, judges v bytes call read.row.0 read.row.1 read.row.2 read.row.3 told.1, part.1));
    }

-- the status of a verdict, or of what stopped it, is never that of words
pub told_apart : (r : Result Verdict Stop) → status_of r ≡ Usage → ⊥
told_apart (Ok (Yes n)) same = cc
told_apart (Ok (No n)) same = cc
told_apart (Err StopWrite) same = cc
told_apart (Err StopMemory) same = cc

-- ---- a source that tells its bytes, and faults that do not come

-- the verdict on what was taken is the verdict on the trace, where the source is at its end
judged : (trace taken : List ℕ) (v : Verdict) (left' : Option (List ℕ)) → Consumes (Some trace) left' taken → IsAtEnd left' → IsVerdict v (lines_of taken)
    → IsVerdict v (lines_of trace)
judged trace taken v left' took end is = Consumes-whole (Some trace) left' taken (λ t. IsVerdict v (lines_of t)) took end is

whole_row : (trace taken written : List ℕ) (status : CheckStatus) (left' held held' : Option (List ℕ)) (ended : Bool) (sb sn kb kn : ℕ)
    → Row status (record {
      taken = taken;
      written = written;
      ended = ended;
      left = left';
      source_before = sb;
      source_now = sn;
      sink_before = kb;
      sink_now = kn;
    })
    → Consumes (Some trace) left' taken → Appends held held' written → (status ≡ Usage → ⊥) → length trace ≤ limit → (Rose sb sn → ⊥) → (Rose kb kn → ⊥)
    → ChecksWhole trace status held held'
whole_row trace taken written Lawful left' held held' ended sb sn kb kn row took wrote read within calm_source calm_sink =
    let is = row.1 in
    inl (Yes row.0, judged trace taken (Yes row.0) left' took is.0.1 is.1, refl, subst (Appends held held') row.2 wrote)
whole_row trace taken written Unlawful left' held held' ended sb sn kb kn row took wrote read within calm_source calm_sink =
    let is = row.1 in
    inl (No row.0, judged trace taken (No row.0) left' took is.0.1 is.1, refl, subst (Appends held held') row.2 wrote)
whole_row trace taken written Usage left' held held' ended sb sn kb kn row took wrote read within calm_source calm_sink = absurd (read refl)
whole_row trace taken written ReadFault left' held held' ended sb sn kb kn row took wrote read within calm_source calm_sink = absurd (calm_source row.0)
whole_row trace taken written WriteFault left' held held' ended sb sn kb kn row took wrote read within calm_source calm_sink = absurd (calm_sink row.0)
whole_row trace taken written NoMemory left' held held' ended sb sn kb kn row took wrote read within calm_source calm_sink = inr refl
whole_row trace taken written TooLong left' held held' ended sb sn kb kn row took wrote read within calm_source calm_sink =
    absurd (omega (arith, row.0, took_within trace left' taken took))

pub checks_whole : (trace : List ℕ) (status : CheckStatus) (left left' held held' : Option (List ℕ)) (ended : Bool) (sb sn kb kn : ℕ)
    → CheckMeets status left left' held held' ended sb sn kb kn → (status ≡ Usage → ⊥) → left ≡ Some trace → length trace ≤ limit → (Rose sb sn → ⊥)
    → (Rose kb kn → ⊥)
    → ChecksWhole trace status held held'
checks_whole trace status left left' held held' ended sb sn kb kn meets read known within calm_source calm_sink =
    let P : Option (List ℕ) → Type 0 = λ o. Consumes o left' meets.taken in
    whole_row trace meets.taken meets.written status left' held held' ended sb sn kb kn meets.row
    (subst P known meets.took) meets.wrote read within calm_source calm_sink
