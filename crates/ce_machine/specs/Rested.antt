-- A machine between two lines.
use Rattle.std.specs.Prelude.{◌≡◌, map}
use Rattle.ce_algorithms.specs.State.{Class, State}
use Rattle.ce_frames.specs.Places.{Behaviour}
use Rattle.frame_stack.specs.Stacked.{Stacked, at_home, behaviours_of}

pub record Rested : Type 0 where
  pub session : State  -- the whole state of its session, with what the classes do and remember
  pub stack : Stacked  -- where their behaviours are

-- each behaviour is at home and nowhere else, with the counter and the text that its class has in the session
pub record AreAtHome (m : Rested) : Type 0 where
  pub home : m.stack ≡ at_home (behaviours_of m.stack)
  pub memories : map (λ (c : Class). c.memory) m.session.classes ≡ map (λ (b : Behaviour). b.memory) (behaviours_of m.stack)
