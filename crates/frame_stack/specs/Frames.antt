-- What the frames of the code stand for.
use Rattle.std.specs.Prelude.{◌≡◌, ℕ, Bool, true, false, not, ◌∷◌, Option, Some, None}
use Rattle.ce_frames.specs.Frames.{Frame}
use Rattle.ce_frames.specs.Frames as frames
use Rattle.ce_frames.specs.Places.{Held, Wait, Body}
use Rattle.frame_stack.specs.declared.waiting.Waiting.{Waiting}
use Rattle.frame_stack.specs.declared.waiting.Waiting.TheVariants.{Replying, Checking, DrainingBackup, Naming, Stepping, Draining}
use Rattle.frame_stack.specs.declared.waiting.Waiting.TheVariants.{InReaction, CreatingFit, CreatingExtended, Upgrading, Constructing}

abbrev pub waiting_of : Waiting → Frame
waiting_of (Replying line) = frames.Replying line
waiting_of (Checking line kept) = frames.Checking line kept
waiting_of (DrainingBackup n) = frames.DrainingBackup n
waiting_of (Naming var) = frames.Naming var
waiting_of (Stepping queue) = frames.Stepping queue
waiting_of (Draining queue n elements kept) = frames.Draining queue (n ∷ elements) kept
waiting_of (InReaction number) = frames.InReaction number
waiting_of (CreatingFit local document) = frames.CreatingFit local document
waiting_of (CreatingExtended n) = frames.CreatingExtended n
waiting_of (Upgrading n d) = frames.Upgrading n d
waiting_of Constructing = frames.Constructing

-- the frame of a body
abbrev pub is_body : Held → Bool
is_body (Wait f) = false
is_body (Body class place held) = true

-- there is a frame, and it is of no body
abbrev pub is_waiting : Option Held → Bool
is_waiting None = false
is_waiting (Some f) = not (is_body f)

-- no body is kept without a place for its behaviour
abbrev pub IsPlain : Held → Type 0
IsPlain (Wait f) = (w : Waiting) × (Wait f ≡ Wait (waiting_of w))
IsPlain (Body class place held) = Unit {0}

-- what `this` is there
abbrev pub this_in : Held → Option ℕ
this_in (Wait f) = None
this_in (Body class place held) = place.this

-- the frame of a body in which `this` is this node
abbrev pub with_this : ℕ → Held → Held
with_this n (Wait f) = Wait f
with_this n (Body class place held) = Body class (record place { this = Some n }) held

-- its action stands in a `try`
abbrev pub guarded_in : Held → Bool
guarded_in (Wait f) = false
guarded_in (Body class place held) = place.guarded

-- the class whose body it is of
abbrev pub owner_in : Held → Option ℕ
owner_in (Wait f) = None
owner_in (Body class place held) = Some class

-- the class of a body
abbrev pub class_in : Held → ℕ
class_in (Wait f) = 0
class_in (Body class place held) = class
