-- What a turn of the code does.
use Rattle.std.specs.Prelude.{◌≡◌, List, ◌++◌, Result, Ok, Err}
use Rattle.ce_base.specs.declared.fault.Fault.{Fault}
use Rattle.ce_algorithms.specs.declared.given.Given.{Given}
use Rattle.ce_algorithms.specs.State.{State}
use Rattle.ce_algorithms.specs.Steps.{Outcome}
use Rattle.ce_frames.specs.Frames.{Frame}
use Rattle.ce_frames.specs.Rest.{WaitEnd, outcome_of}
use Rattle.ce_frames.specs.Rest as ends
use Rattle.ce_frames.specs.Turned.{Turned}
use Rattle.ce_outcomes.specs.declared.came.Came.{Came}
use Rattle.ce_outcomes.specs.declared.came.Came.TheVariants.{Went, Threw, Over}

abbrev pub end_of : Came → WaitEnd
end_of (Went given) = ends.Went given
end_of (Threw f) = ends.Threw f
end_of Over = ends.Over

-- how it came, in a state
abbrev pub came_in : Came → State → Outcome State Given
came_in now s = outcome_of (end_of now) s

-- what was kept is handed down
abbrev pub came_of : Result Given Fault → Came
came_of (Ok given) = Went given
came_of (Err f) = Threw f

-- with these frames below, the code's frames, its end and its state are those that the definition's turn comes to
pub record Turns (below new : List Frame) (now : Came) (s : State) (t : Turned) : Type 0 where
  pub frames : new ≡ below ++ t.pushed
  pub end : end_of now ≡ t.end
  pub state : s ≡ t.state
