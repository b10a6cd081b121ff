-- A frame as it is kept, by its kind.
use Rattle.ce_frames.specs.Places.{Held, Wait}
use Rattle.body_frames.specs.Kept.{frame_of}
use Rattle.frame_stack.specs.declared.frame.Kind.{Kind}
use Rattle.frame_stack.specs.declared.frame.Kind.TheVariants as kinds
use Rattle.frame_stack.specs.Frames.{waiting_of}

abbrev pub held_of : Kind → Held
held_of (kinds.Wait w) = Wait (waiting_of w)
held_of (kinds.Body b) = frame_of b
