-- What frames come to, and what is left to do.
use Rattle.std.specs.Prelude.{ℕ, List, [], ◌∷◌, Option, Some, None}
use Rattle.ce_algorithms.specs.declared.given.Given.{Given}
use Rattle.ce_algorithms.specs.State.{State}
use Rattle.ce_algorithms.specs.Steps.{Outcome}
use Rattle.ce_frames.specs.Frames.{Frame, Naming}
use Rattle.ce_frames.specs.Rest.{rest}
use Rattle.ce_frames.specs.Work.{work}
use Rattle.frame_stack.specs.Stacked.{Stacked, frames_of}

-- what the frames still do, one after another
unfoldable pub over : Stacked → Outcome State Given → Outcome State Given
over stack o = rest (frames_of stack) o

-- what is left to do
unfoldable pub left : Stacked → State → ℕ
left stack s = work (frames_of stack) s

-- the frame of an operation's variable, where it has one
abbrev pub naming : Option (List ℕ) → List Frame
naming None = []
naming (Some var) = Naming var ∷ []
