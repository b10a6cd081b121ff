-- Turns of frames that read nothing of what classes do and remember.
use Rattle.ce_base.specs.declared.fault.Fault.{Fault}
use Rattle.ce_algorithms.specs.declared.given.Given.{Given}
use Rattle.ce_algorithms.specs.State.{State}
use Rattle.ce_frames.specs.Frames.{Frame}
use Rattle.ce_frames.specs.Turns.{turn, turn_threw, turn_went}
use Rattle.ce_frames.specs.Whole.{CatchesBlind, GoesBlind}
use Rattle.ce_frames.proofs.BlindTurns.{threw_blind, went_blind}
use Rattle.frame_stack.specs.declared.waiting.Waiting.{Waiting}
use Rattle.frame_stack.specs.declared.waiting.Waiting.TheVariants.{Replying, Checking, DrainingBackup, Naming, Stepping, Draining, InReaction, CreatingFit}
use Rattle.frame_stack.specs.declared.waiting.Waiting.TheVariants.{CreatingExtended, Upgrading, Constructing}
use Rattle.frame_stack.specs.Frames.{waiting_of}
use Rattle.ce_drains.specs.Blind.{BlindAt}

-- frames that go on

pub went_at : (f : Frame) (given : Given) (s : State) → GoesBlind f → BlindAt (turn_went f given) s
unfolding turn
went_at f given s h = let b = went_blind f given h in record { same = λ bs. b.same bs s; classes = b.classes s }

pub threw_at : (w : Waiting) (x : Fault) (s : State) → BlindAt (turn_threw (waiting_of w) x) s
unfolding turn
threw_at w x s = let b = threw_blind (waiting_of w) x (catches w) in record { same = λ bs. b.same bs s; classes = b.classes s }
  where
    catches : (w : Waiting) → CatchesBlind (waiting_of w)
    catches (Replying line) = tt
    catches (Checking line kept) = tt
    catches (DrainingBackup n) = tt
    catches (Naming var) = tt
    catches (Stepping queue) = tt
    catches (Draining queue n elements kept) = tt
    catches (InReaction number) = tt
    catches (CreatingFit local document) = tt
    catches (CreatingExtended n) = tt
    catches (Upgrading n d) = tt
    catches Constructing = tt
