-- What reading a whole source took from it.
use Rattle.std.specs.Prelude.{ℕ, ◌≡◌, ◌≤◌, ◌<◌, Bool, true, false, List, length, Result, Ok, Err}
use Rattle.std.specs.Io.KnownBytes.{Consumes, IsAtEnd}
use Rattle.std.specs.declared.option.Option.{Option}
use Rattle.ce_base.specs.Faults.{Rose}
use Rattle.ce_base.specs.declared.memory.NoMemory.{NoMemory}
use Rattle.ce_base.specs.declared.whole.Read.{Read}
use Rattle.ce_base.specs.declared.whole.Read.TheVariants.{Whole, Failed, TooLong}

-- how many bytes are asked for at a time
abbrev pub piece : ℕ
piece = 65536

-- what is seen of such a reading from outside
pub record Taking : Type 0 where
  pub taken : List ℕ  -- the bytes that were taken from the source
  pub ended : Bool  -- the last read gave the end
  pub left : Option (List ℕ)  -- what the source has left, where it tells
  pub before : ℕ  -- the counts of faults
  pub now : ℕ

-- the row of each answer. A read that failed was the last one: another might have given the end
abbrev pub ReadRow : ℕ → Result Read NoMemory → Taking → Type 0
ReadRow limit (Ok (Whole bytes)) t = (bytes ≡ t.taken) × (t.ended ≡ true) × IsAtEnd t.left × (length t.taken ≤ limit)
ReadRow limit (Ok Failed) t = Rose t.before t.now × (length t.taken ≤ limit) × (t.ended ≡ false)
ReadRow limit (Ok TooLong) t = limit < length t.taken
ReadRow limit (Err e) t = length t.taken ≤ limit

-- some bytes were taken, as far as the source tells, and the answer says what they are
pub record ReadMeets (limit : ℕ) (answer : Result Read NoMemory) (left left' : Option (List ℕ)) (ended : Bool) (before now : ℕ) : Type 0 where
  pub taken : List ℕ
  pub took : Consumes left left' taken
  pub row : ReadRow limit answer (record { taken = taken; ended = ended; left = left'; before = before; now = now })
