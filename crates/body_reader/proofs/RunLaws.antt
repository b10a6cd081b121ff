-- What a run has done at each of its ends.
use Rattle.std.proofs.Common.{◌≡◌, ◌≤◌, ℕ, Bool, List, [], length, Option, Some, None, Result, Ok, Err, refl, subst, arith}
use Rattle.std.proofs.Common.{inl, inr}
use Rattle.std.proofs.KnownBytes.{Appends-nil, Consumes-nil, Consumes-whole}
use Rattle.std.specs.Prelude.{IsErrOf, OnErr, OnOk}
use Rattle.std.specs.Io.KnownBytes.{Appends, Consumes}
use Rattle.ce_base.specs.Call.{Call}
use Rattle.ce_base.specs.Faults.{Rose}
use Rattle.ce_base.specs.Outside.{AppendsPart, IsPrefix}
use Rattle.ce_base.specs.declared.entries.Entry.{Entry}
use Rattle.ce_base.specs.declared.stop.Stop.{Stop}
use Rattle.ce_base.specs.declared.stop.Stop.TheVariants.{NoMemory as StopMemory, WriteFault as StopWrite}
use Rattle.ce_base.proofs.Pieces.{took_within}
use Rattle.body_reader.specs.Listing.{listing, refused_line}
use Rattle.body_reader.specs.Table.{AnswerMeets, AnswerRow, IsAsSaid, IsBody, IsFront, IsListed, IsRefused, Row, RunMeets, RunsWhole, limit, status_after}
use Rattle.body_reader.specs.declared.body_type.BodyType.{BodyType}
use Rattle.body_reader.specs.declared.status.ReadStatus.{ReadStatus}
use Rattle.body_reader.specs.declared.status.ReadStatus.TheVariants.{Done, Refused, Usage, ReadFault, WriteFault, NoMemory, TooLong}

-- ---- what was answered

-- what was to be written was written, or a front of it
pub written_after : (t : BodyType) (bytes whole : List ℕ) (status : ReadStatus) (r : Result (Unit {0}) Stop) (held held' : Option (List ℕ)) (before now : ℕ)
    → AnswerRow status t bytes whole before now → ((part : List ℕ) → IsPrefix part whole → IsFront t bytes part)
    → OnOk r (Appends held held' whole) → OnErr r (AppendsPart held held' whole) → (IsErrOf r StopWrite → Rose before now)
    → AnswerMeets t bytes (status_after r status) held held' before now
written_after t bytes whole status (Ok x) held held' before now row front all part cause = record { written = whole; wrote = all; row = row }
written_after t bytes whole status (Err StopMemory) held held' before now row front all part cause =
    record { written = part.0; wrote = part.2; row = inr (front part.0 part.1) }
written_after t bytes whole status (Err StopWrite) held held' before now row front all part cause =
    record { written = part.0; wrote = part.2; row = (cause refl, front part.0 part.1) }

pub listed_after : (t : BodyType) (bytes : List ℕ) (list : List Entry) (r : Result (Unit {0}) Stop) (held held' : Option (List ℕ)) (before now : ℕ)
    → IsBody t list bytes → OnOk r (Appends held held' (listing list)) → OnErr r (AppendsPart held held' (listing list))
    → (IsErrOf r StopWrite → Rose before now)
    → AnswerMeets t bytes (status_after r Done) held held' before now
listed_after t bytes list r held held' before now is =
    written_after t bytes (listing list) Done r held held' before now (list, is, refl) (λ part front. (listing list, inl (list, is, refl), front))

pub refused_after : (t : BodyType) (bytes : List ℕ) (r : Result (Unit {0}) Stop) (held held' : Option (List ℕ)) (before now : ℕ)
    → ((list : List Entry) → IsBody t list bytes → ⊥) → OnOk r (Appends held held' refused_line) → OnErr r (AppendsPart held held' refused_line)
    → (IsErrOf r StopWrite → Rose before now)
    → AnswerMeets t bytes (status_after r Refused) held held' before now
refused_after t bytes r held held' before now none =
    written_after t bytes refused_line Refused r held held' before now (none, refl) (λ part front. (refused_line, inr (none, refl), front))

-- ---- nothing was read

pub meets_usage : (left held : Option (List ℕ)) (ended : Bool) (sb sn kb kn : ℕ) → RunMeets None Usage left left held held ended sb sn kb kn
meets_usage left held ended sb sn kb kn = record { taken = []; written = []; took = Consumes-nil left; wrote = Appends-nil held; as_said = (refl, refl, refl) }

-- memory was refused while the words were read, which are not refused
pub meets_unread : (said : Option BodyType) (left held : Option (List ℕ)) (ended : Bool) (sb sn kb kn : ℕ) → (said ≡ None → ⊥)
    → RunMeets said NoMemory left left held held ended sb sn kb kn
meets_unread None left held ended sb sn kb kn some = absurd (some refl)
meets_unread (Some t) left held ended sb sn kb kn some =
    record { taken = []; written = []; took = Consumes-nil left; wrote = Appends-nil held; as_said = (omega arith, inl refl) }

-- ---- a run that nothing disturbed

whole_row : (t : BodyType) (bytes : List ℕ) (status : ReadStatus) (call : Call) (held held' : Option (List ℕ)) → Row status t call
    → Consumes (Some bytes) call.left call.taken → Appends held held' call.written
    → length bytes ≤ limit → (Rose call.source_before call.source_now → ⊥) → (Rose call.sink_before call.sink_now → ⊥) → RunsWhole t bytes status held held'
whole_row t bytes Done call held held' row took wrote within calm_source calm_sink =
    inl (refl, call.written, Consumes-whole (Some bytes) call.left call.taken (λ l. IsListed t l call.written) took row.0.1 row.1, wrote)
whole_row t bytes Refused call held held' row took wrote within calm_source calm_sink =
    inr (inl (refl, call.written, Consumes-whole (Some bytes) call.left call.taken (λ l. IsRefused t l call.written) took row.0.1 row.1, wrote))
whole_row t bytes Usage call held held' row took wrote within calm_source calm_sink = absurd row
whole_row t bytes ReadFault call held held' row took wrote within calm_source calm_sink = absurd (calm_source row.0)
whole_row t bytes WriteFault call held held' row took wrote within calm_source calm_sink = absurd (calm_sink row.1)
whole_row t bytes NoMemory call held held' row took wrote within calm_source calm_sink = inr (inr refl)
whole_row t bytes TooLong call held held' row took wrote within calm_source calm_sink =
    let few = took_within bytes call.left call.taken took in
    absurd (omega (arith, few, within, row.0))

pub runs_whole : (said : Option BodyType) (t : BodyType) (bytes : List ℕ) (status : ReadStatus) (left left' held held' : Option (List ℕ)) (ended : Bool)
    (sb sn kb kn : ℕ)
    → RunMeets said status left left' held held' ended sb sn kb kn → said ≡ Some t → left ≡ Some bytes → length bytes ≤ limit → (Rose sb sn → ⊥)
    → (Rose kb kn → ⊥) → RunsWhole t bytes status held held'
runs_whole said t bytes status left left' held held' ended sb sn kb kn meets is known within calm_source calm_sink =
    let call : Call = record {
      taken = meets.taken;
      written = meets.written;
      ended = ended;
      left = left';
      source_before = sb;
      source_now = sn;
      sink_before = kb;
      sink_now = kn;
    } in
    whole_row t bytes status call held held' (subst (λ (s : Option BodyType). IsAsSaid s status call) is meets.as_said)
    (subst (λ (l : Option (List ℕ)). Consumes l left' meets.taken) known meets.took) meets.wrote within calm_source calm_sink
