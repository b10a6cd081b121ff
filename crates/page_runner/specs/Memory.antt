-- A source over the caller's script, a sink in memory of the call's own, and what the caller's buffer holds.
use Rattle.std.specs.Prelude.{ℕ, Bool, ◌≡◌, ◌≤◌, List, ◌++◌, length, take, drop}

-- the bytes that a source has left, and whether the last read gave the end
pub record Rest : Type 0 where
  pub left : List ℕ
  pub ended : Bool

-- the bytes that a sink holds, how many it may hold, and how often it has failed
pub record Store : Type 0 where
  pub held : List ℕ
  pub most : ℕ
  pub faults : ℕ

-- so many bytes of the buffer are the first ones of the text, and those behind them are as they were
pub record Holds (text old new : List ℕ) (count : ℕ) : Type 0 where
  pub of_text : count ≤ length text
  pub within : count ≤ length old
  pub bytes : new ≡ take count text ++ drop count old
