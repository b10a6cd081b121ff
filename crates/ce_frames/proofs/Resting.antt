-- Frames on frames.
use Rattle.std.proofs.Common.{◌≡◌, true, false, List, [], ◌∷◌, ◌++◌, refl, ap, ◌∙◌}
use Rattle.ce_algorithms.specs.declared.given.Given.{Given}
use Rattle.ce_algorithms.specs.Steps.{Outcome, Spent}
use Rattle.ce_algorithms.specs.State.{State}
use Rattle.ce_frames.specs.Frames.{Frame, Replying, Checking, DrainingBackup, Naming, Stepping, Draining, InReaction, CreatingFit, CreatingExtended, Upgrading}
use Rattle.ce_frames.specs.Frames.{Constructing, InBody}
use Rattle.ce_frames.specs.After.{after}
use Rattle.ce_frames.specs.Rest.{rest}

-- frames above frames
pub rest_append : (below above : List Frame) (o : Outcome State Given) → rest (below ++ above) o ≡ rest below (rest above o)
unfolding rest
rest_append [] above o = refl
rest_append (f ∷ below) above o = ap (after f) (rest_append below above o)

rest_one : (f : Frame) (o : Outcome State Given) → rest (f ∷ []) o ≡ after f o
unfolding rest
rest_one f o = refl

-- a frame above others
pub rest_push : (frames : List Frame) (f : Frame) (o : Outcome State Given) → rest (frames ++ f ∷ []) o ≡ rest frames (after f o)
rest_push frames f o = rest_append frames (f ∷ []) o ∙ ap (rest frames) (rest_one f o)

-- the session has ended
pub after_spent : (f : Frame) (s : State) → after f (Spent s) ≡ Spent s
unfolding after
after_spent (Replying line) s = refl
after_spent (Checking line result) s = refl
after_spent (DrainingBackup element) s = refl
after_spent (Naming var) s = refl
after_spent (Stepping queue) s = refl
after_spent (Draining queue elements kept) s = refl
after_spent (InReaction number) s = refl
after_spent (CreatingFit local document) s = refl
after_spent (CreatingExtended element) s = refl
after_spent (Upgrading element definition) s = refl
after_spent Constructing s = refl
after_spent (InBody class args this true actions) s = refl
after_spent (InBody class args this false actions) s = refl
