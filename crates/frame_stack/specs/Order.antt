-- What holds of each stack.
use Rattle.std.specs.Prelude.{ℕ, List, length}
use Rattle.ce_frames.specs.Places.{Held, Homes, Stands}
use Rattle.frame_stack.specs.Chains.{AreChained}
use Rattle.frame_stack.specs.Stacked.{placed_from}

-- each class's behaviour is in one place, and its frames are one chain
pub record AreInOrder (homes : Homes) (chains : List (List ℕ)) (frames : List Held) : Type 0 where
  pub placed : Stands homes frames (placed_from 0 frames homes)
  pub chained : AreChained (length homes) chains frames
