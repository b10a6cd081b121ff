-- What is still to come, of frames that lie on each other and of how the topmost one's wait ended.
use Rattle.std.specs.Prelude.{List, [], ◌∷◌}
use Rattle.ce_base.specs.declared.fault.Fault.{Fault}
use Rattle.ce_algorithms.specs.declared.given.Given.{Given}
use Rattle.ce_algorithms.specs.Steps.{Outcome, Goes, Throws, Spent}
use Rattle.ce_algorithms.specs.State.{State}
use Rattle.ce_frames.specs.Frames.{Frame}
use Rattle.ce_frames.specs.After.{after}

-- how a wait ended: with what was given, with a fault, or with the end of the session
pub data WaitEnd : Type 0 where
  Went : (given : Given) → WaitEnd
  Threw : (fault : Fault) → WaitEnd
  Over : WaitEnd

-- an end, in the state where it came
abbrev pub outcome_of : WaitEnd → State → Outcome State Given
outcome_of (Went given) s = Goes given s
outcome_of (Threw f) s = Throws f s
outcome_of Over s = Spent s

-- what is still done by these frames, the lowest first, after the topmost was handed an outcome
unfoldable pub rest : List Frame → Outcome State Given → Outcome State Given
rest [] o = o
rest (f ∷ frames) o = after f (rest frames o)
