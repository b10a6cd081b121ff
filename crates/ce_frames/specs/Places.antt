-- Where the behaviours of classes are while bodies run. A class's behaviour is at home, until a body of the class begins:
-- then that body's frame has it. Where a body of the same class begins above, the upper frame has it until that body ends.
use Rattle.std.specs.Prelude.{◌≡◌, ℕ, suc, drop, ◌==◌, Bool, true, false, List, [], ◌∷◌, length, Option, Some, None, slice_get}
use Rattle.rule_tokens.specs.declared.callback.CallName.{CallName}
use Rattle.rule_lines.specs.Acts.{Act}
use Rattle.reaction_queue.specs.Queues.{or_empty}
use Rattle.ce_algorithms.specs.State.{Memory}
use Rattle.ce_algorithms.specs.Values.{Args}
use Rattle.ce_algorithms.specs.Body.{actions_of}
use Rattle.ce_frames.specs.Frames.{Frame, InBody}

-- what a class does and remembers
pub record Behaviour : Type 0 where
  pub bodies : List (CallName × Act)  -- in the order of their lines
  pub memory : Memory

-- how far a body is
pub record Place : Type 0 where
  pub call : CallName
  pub index : ℕ  -- how many of its actions have begun
  pub args : Args
  pub this : Option ℕ
  pub guarded : Bool

-- a frame as it is kept: only that of a body has a place for a behaviour, which may be empty
pub data Held : Type 0 where
  Wait : (frame : Frame) → Held
  Body : (class : ℕ) → (place : Place) → (held : Option Behaviour) → Held

-- the frame that is kept so, by the bodies of the classes, which stay as they are while a command runs
abbrev pub seen : List (List (CallName × Act)) → Held → Frame
seen bodies (Wait f) = f
seen bodies (Body class p held) = InBody class p.args p.this p.guarded (drop p.index (actions_of p.call (or_empty (slice_get bodies class))))

-- the places of a class

-- the frame is of a body of this class
abbrev pub is_of : ℕ → Held → Bool
is_of k (Wait f) = false
is_of k (Body class place held) = class == k

-- no frame is
abbrev pub NoneOf : ℕ → List Held → Type 0
NoneOf k [] = Unit {0}
NoneOf k (f ∷ frames) = (is_of k f ≡ false) × NoneOf k frames

-- what is in the frame's place
abbrev pub held_in : Held → Option Behaviour
held_in (Wait f) = None
held_in (Body class place held) = held

-- the frame with another behaviour in its place, or none
abbrev pub holding : Option Behaviour → Held → Held
holding b (Wait f) = Wait f
holding b (Body class place held) = Body class place b

-- one place more, where a frame is of the class
abbrev pub place_if : Bool → Option Behaviour → List (Option Behaviour) → List (Option Behaviour)
place_if true p ps = p ∷ ps
place_if false p ps = ps

-- what is in the places of the frames of a class, the lowest first
abbrev pub places_of : ℕ → List Held → List (Option Behaviour)
places_of k [] = []
places_of k (f ∷ frames) = place_if (is_of k f) (held_in f) (places_of k frames)

-- what is at home, of each class
abbrev pub Homes : Type 0
Homes = List (Option Behaviour)

-- a class that is not there has no home
abbrev pub home_in : Option (Option Behaviour) → Option Behaviour
home_in None = None
home_in (Some home) = home

-- what is at a class's home
abbrev pub home_of : Homes → ℕ → Option Behaviour
home_of homes k = home_in (slice_get homes k)

-- in one place

-- the last place has it, and the others have nothing
abbrev pub OnlyLast : Option Behaviour → List (Option Behaviour) → Type 0
OnlyLast b [] = ⊥
OnlyLast b (p ∷ []) = p ≡ b
OnlyLast b (p ∷ q ∷ ps) = (p ≡ None) × OnlyLast b (q ∷ ps)

-- each class's behaviour is in its topmost frame, or at home where it has none, and nowhere else
pub record Stands (homes : Homes) (frames : List Held) (behaviours : List Behaviour) : Type 0 where
  pub each : length homes ≡ length behaviours
  pub one : (k : ℕ) → OnlyLast (slice_get behaviours k) (home_of homes k ∷ places_of k frames)

-- the frame at this index is the topmost one of the class
pub record IsTopmost (k : ℕ) (frames : List Held) (i : ℕ) (f : Held) : Type 0 where
  pub at : slice_get frames i ≡ Some f
  pub is : is_of k f ≡ true
  pub last : NoneOf k (drop (suc i) frames)
