-- What the status of a run says of the bytes that it took and wrote.
use Rattle.std.specs.Prelude.{ℕ, ◌≡◌, ◌≤◌, ◌<◌, ◌⊎◌, Bool, false, List, [], length, Option, Some, None, Result, Ok, Err}
use Rattle.std.specs.Io.KnownBytes.{Consumes, Appends}
use Rattle.ce_base.specs.Call.{Call, ReadsAll}
use Rattle.ce_base.specs.Faults.{Rose}
use Rattle.ce_base.specs.Outside.{IsPrefix}
use Rattle.ce_base.specs.declared.entries.Entry.{Entry}
use Rattle.ce_base.specs.declared.stop.Stop.{Stop}
use Rattle.ce_base.specs.declared.stop.Stop.TheVariants.{NoMemory as StopMemory, WriteFault as StopWrite}
use Rattle.body_grammars.specs.Bodies.{UrlText, PlainText, PartText, IsBoundary}
use Rattle.body_reader.specs.Listing.{listing, refused_line}
use Rattle.body_reader.specs.declared.body_type.BodyType.{BodyType}
use Rattle.body_reader.specs.declared.body_type.BodyType.TheVariants.{Urlencoded, Plain, Multipart}
use Rattle.body_reader.specs.declared.status.ReadStatus.{ReadStatus}
use Rattle.body_reader.specs.declared.status.ReadStatus.TheVariants.{Done, Refused, Usage, ReadFault, WriteFault, NoMemory, TooLong}

-- how many bytes a body may have
abbrev pub limit : ℕ
limit = 33554432

-- the number of each status
abbrev pub number_of : ReadStatus → ℕ
number_of Done = 0
number_of Refused = 1
number_of Usage = 2
number_of ReadFault = 4
number_of WriteFault = 5
number_of NoMemory = 6
number_of TooLong = 7

-- the boundary of a multipart body is one
abbrev pub IsReadable : BodyType → Type 0
IsReadable Urlencoded = Unit {0}
IsReadable Plain = Unit {0}
IsReadable (Multipart boundary) = IsBoundary boundary

-- the bytes are the body of the list, as a body of this type
abbrev pub IsBody : BodyType → List Entry → List ℕ → Type 0
IsBody Urlencoded list bytes = UrlText list bytes
IsBody Plain list bytes = PlainText list bytes
IsBody (Multipart boundary) list bytes = PartText list boundary bytes

-- the bytes are the body of a list, and this is its listing
abbrev pub IsListed : BodyType → List ℕ → List ℕ → Type 0
IsListed body_type bytes written = (list : List Entry) × IsBody body_type list bytes × (written ≡ listing list)

-- they are the body of none, and this says so
abbrev pub IsRefused : BodyType → List ℕ → List ℕ → Type 0
IsRefused body_type bytes written = ((list : List Entry) → IsBody body_type list bytes → ⊥) × (written ≡ refused_line)

-- a front of what is to be written of the bytes
abbrev pub IsFront : BodyType → List ℕ → List ℕ → Type 0
IsFront body_type bytes written = (whole : List ℕ) × (IsListed body_type bytes whole ⊎ IsRefused body_type bytes whole) × IsPrefix written whole

-- the row of each status, where a body of this type is asked for
abbrev pub Row : ReadStatus → BodyType → Call → Type 0
Row Done body_type call = ReadsAll limit call × IsListed body_type call.taken call.written
Row Refused body_type call = ReadsAll limit call × IsRefused body_type call.taken call.written
Row Usage body_type call = ⊥
Row ReadFault body_type call = Rose call.source_before call.source_now × (length call.taken ≤ limit) × (call.ended ≡ false) × (call.written ≡ [])
Row WriteFault body_type call = ReadsAll limit call × Rose call.sink_before call.sink_now × IsFront body_type call.taken call.written
Row NoMemory body_type call = (length call.taken ≤ limit) × ((call.written ≡ []) ⊎ (ReadsAll limit call × IsFront body_type call.taken call.written))
Row TooLong body_type call = (limit < length call.taken) × (call.written ≡ [])

-- the call is as its words and its status say
abbrev pub IsAsSaid : Option BodyType → ReadStatus → Call → Type 0
IsAsSaid None status call = (status ≡ Usage) × (call.taken ≡ []) × (call.written ≡ [])
IsAsSaid (Some body_type) status call = Row status body_type call

-- some bytes were taken and some were written, as far as both ends tell them, and the call is as its words and its status say
pub record RunMeets (said : Option BodyType) (status : ReadStatus) (left left' held held' : Option (List ℕ)) (ended : Bool)
    (source_before source_now sink_before sink_now : ℕ) : Type 0 where
  pub taken : List ℕ
  pub written : List ℕ
  pub took : Consumes left left' taken
  pub wrote : Appends held held' written
  pub as_said : IsAsSaid said status (record {
    taken = taken;
    written = written;
    ended = ended;
    left = left';
    source_before = source_before;
    source_now = source_now;
    sink_before = sink_before;
    sink_now = sink_now;
  })

-- a source was read whole: its bytes are a body, and its listing was written; or they are none, and the line that says so was
-- written; or memory was refused
abbrev pub RunsWhole : BodyType → List ℕ → ReadStatus → Option (List ℕ) → Option (List ℕ) → Type 0
RunsWhole body_type bytes status held held' =
    ((status ≡ Done) × (written : List ℕ) × IsListed body_type bytes written × Appends held held' written)
    ⊎ (((status ≡ Refused) × (written : List ℕ) × IsRefused body_type bytes written × Appends held held' written)
    ⊎ (status ≡ NoMemory))

-- ---- what was answered, once the source was read

-- the row of each status that comes then
abbrev pub AnswerRow : ReadStatus → BodyType → List ℕ → List ℕ → ℕ → ℕ → Type 0
AnswerRow Done body_type bytes written before now = IsListed body_type bytes written
AnswerRow Refused body_type bytes written before now = IsRefused body_type bytes written
AnswerRow Usage body_type bytes written before now = ⊥
AnswerRow ReadFault body_type bytes written before now = ⊥
AnswerRow WriteFault body_type bytes written before now = Rose before now × IsFront body_type bytes written
AnswerRow NoMemory body_type bytes written before now = (written ≡ []) ⊎ IsFront body_type bytes written
AnswerRow TooLong body_type bytes written before now = ⊥

pub record AnswerMeets (body_type : BodyType) (bytes : List ℕ) (status : ReadStatus) (held held' : Option (List ℕ)) (before now : ℕ) : Type 0 where
  pub written : List ℕ
  pub wrote : Appends held held' written
  pub row : AnswerRow status body_type bytes written before now

-- the status of a write: this one where it ended, else by why it stopped
abbrev pub status_after : Result (Unit {0}) Stop → ReadStatus → ReadStatus
status_after (Ok x) status = status
status_after (Err StopMemory) status = NoMemory
status_after (Err StopWrite) status = WriteFault
