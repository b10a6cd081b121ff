-- A turn reads nothing of what classes do and remember, in a state: no constructor begins in it.
use Rattle.std.specs.Prelude.{◌≡◌, List, length}
use Rattle.ce_algorithms.specs.State.{State}
use Rattle.ce_frames.specs.Places.{Behaviour}
use Rattle.ce_frames.specs.Turned.{Turn}
use Rattle.ce_frames.specs.Whole.{whole, whole_turned}

pub record BlindAt (t : Turn) (s : State) : Type 0 where
  pub same : (bs : List Behaviour) → t (whole bs s) ≡ whole_turned bs (t s)
  pub classes : length (t s).state.classes ≡ length s.classes
