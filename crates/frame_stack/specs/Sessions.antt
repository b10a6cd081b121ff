-- A session: a state, of which the classes' behaviours are kept apart, and the stack where they are.
use Rattle.std.specs.Prelude.{◌≡◌, length}
use Rattle.ce_algorithms.specs.State.{State}
use Rattle.ce_frames.specs.Whole.{whole}
use Rattle.frame_stack.specs.Stacked.{Stacked, behaviours_of}

-- the whole state
abbrev pub session : Stacked → State → State
session stack s = whole (behaviours_of stack) s

-- each class has a behaviour
abbrev pub ArePaired : Stacked → State → Type 0
ArePaired stack s = length s.classes ≡ length (behaviours_of stack)
