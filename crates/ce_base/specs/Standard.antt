-- What a contract sees of a source over a reader of std.
use Rattle.std.specs.Prelude.{ℕ, Bool}

-- how often the source has failed, and whether the last read gave the end
pub record Reading : Type 0 where
  pub faults : ℕ
  pub ended : Bool
