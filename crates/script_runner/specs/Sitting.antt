-- How far a session has come.
use Rattle.std.specs.Prelude.{ℕ, Bool}
use Rattle.ce_algorithms.specs.State.{State}

pub record Sitting : Type 0 where
  pub state : State
  pub line : ℕ  -- the number of the last line
  pub bad : Bool  -- some line was refused
  pub trace : Bool
