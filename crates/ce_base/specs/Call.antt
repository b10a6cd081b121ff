-- A call that takes bytes from a source and gives bytes to a sink, as it is seen from outside.
use Rattle.std.specs.Prelude.{ℕ, ◌≡◌, ◌≤◌, Bool, true, List, length}
use Rattle.std.specs.Io.KnownBytes.{IsAtEnd}
use Rattle.std.specs.declared.option.Option.{Option}

pub record Call : Type 0 where
  pub taken : List ℕ  -- the bytes that it took from the source
  pub written : List ℕ  -- the bytes that it gave to the sink
  pub ended : Bool  -- the last read gave the end
  pub left : Option (List ℕ)  -- what the source has left, where it tells
  pub source_before : ℕ  -- the counts of faults
  pub source_now : ℕ
  pub sink_before : ℕ
  pub sink_now : ℕ

-- the source was read to its end, which is within the limit
abbrev pub ReadsAll : ℕ → Call → Type 0
ReadsAll limit call = (call.ended ≡ true) × IsAtEnd call.left × (length call.taken ≤ limit)
