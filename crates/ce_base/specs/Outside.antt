-- What a read and a write do to the bytes that a source has left and that a sink holds.
use Rattle.std.specs.Prelude.{ℕ, ◌≤◌, ◌<◌, ◌≡◌, Bool, true, false, ◌&&◌, nat_eq, nat_lt, List, [], ◌++◌, length, take, ⊤}
use Rattle.std.specs.Io.KnownBytes.{Appends}
use Rattle.std.specs.declared.option.Option.{Option}
use Rattle.ce_base.specs.Faults.{next_count}
use Rattle.ce_base.specs.declared.outside.Got.{Got}
use Rattle.ce_base.specs.declared.outside.Got.TheVariants.{Bytes, End, Failed}
use Rattle.ce_base.specs.declared.outside.Put.{Put}
use Rattle.ce_base.specs.declared.outside.Put.TheVariants.{Took, Failed as put_failed, NoMemory}

-- the bytes that a read put at the front of the buffer
abbrev pub bytes_got : Got → List ℕ → List ℕ
bytes_got (Bytes n) buf = take n buf
bytes_got End buf = []
bytes_got Failed buf = []

-- the buffer has at least as many bytes as the read gave
abbrev pub IsWithin : Got → List ℕ → Type 0
IsWithin (Bytes n) buf = n ≤ length buf
IsWithin End buf = ⊤
IsWithin Failed buf = ⊤

-- a read into a buffer with so much room gave the end: End, or no bytes where there was room
abbrev pub gave_end : Got → ℕ → Bool
gave_end (Bytes n) room = nat_eq n 0 && nat_lt 0 room
gave_end End room = true
gave_end Failed room = false

-- the count of faults after a read
abbrev pub faults_got : Got → ℕ → ℕ
faults_got (Bytes n) faults = faults
faults_got End faults = faults
faults_got Failed faults = next_count faults

-- the bytes of the piece that a write took
abbrev pub bytes_put : Put → List ℕ → List ℕ
bytes_put (Took n) piece = take n piece
bytes_put put_failed piece = []
bytes_put NoMemory piece = []

-- a write that took, took no more than the piece, and at least one byte where there is one
abbrev pub TakesSome : Put → List ℕ → Type 0
TakesSome (Took n) piece = (n ≤ length piece) × (0 < length piece → 0 < n)
TakesSome put_failed piece = ⊤
TakesSome NoMemory piece = ⊤

-- the count of faults after a write
abbrev pub faults_put : Put → ℕ → ℕ
faults_put (Took n) faults = faults
faults_put put_failed faults = next_count faults
faults_put NoMemory faults = faults

-- the first list stands at the front of the second
abbrev pub IsPrefix : List ℕ → List ℕ → Type 0
IsPrefix part whole = (more : List ℕ) × (part ++ more ≡ whole)

-- some front of these bytes was put behind those that the sink held
abbrev pub AppendsPart : Option (List ℕ) → Option (List ℕ) → List ℕ → Type 0
AppendsPart old new bytes = (part : List ℕ) × IsPrefix part bytes × Appends old new part

-- where bytes came, there are at least one, and no more than there is room for
abbrev pub IsSomeBytes : Got → ℕ → Type 0
IsSomeBytes (Bytes n) room = (0 < n) × (n ≤ room)
IsSomeBytes End room = ⊤
IsSomeBytes Failed room = ⊤

abbrev pub is_end : Got → Bool
is_end (Bytes n) = false
is_end End = true
is_end Failed = false
