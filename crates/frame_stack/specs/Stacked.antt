-- A stack of frames, and the homes of behaviours: what they stand for.
use Rattle.std.specs.Prelude.{◌≡◌, ℕ, suc, Bool, false, List, [], ◌∷◌, map, Option, Some, None, slice_get}
use Rattle.rule_tokens.specs.declared.callback.CallName.{CallName}
use Rattle.rule_lines.specs.Acts.{Act}
use Rattle.reaction_queue.specs.Queues.{or_empty}
use Rattle.ce_algorithms.specs.Body.{actions_of}
use Rattle.ce_algorithms.specs.Values.{Args}
use Rattle.ce_frames.specs.Frames.{Frame, InBody}
use Rattle.ce_frames.specs.Places.{Behaviour, Held, Homes, places_of, seen}
use Rattle.behaviours.specs.Behaviours.{new_behaviour}

pub record Stacked : Type 0 where
  pub homes : Homes  -- what is at home, of each class
  pub frames : List Held  -- the lowest first

-- behaviours

-- what the last place has
abbrev pub last_of : Option Behaviour → List (Option Behaviour) → Option Behaviour
last_of p [] = p
last_of p (q ∷ qs) = last_of q qs

abbrev pub or_new : Option Behaviour → Behaviour
or_new None = new_behaviour
or_new (Some b) = b

-- the behaviours of classes from this number on, each where it is
abbrev pub placed_from : ℕ → List Held → Homes → List Behaviour
placed_from k frames [] = []
placed_from k frames (h ∷ homes) = or_new (last_of h (places_of k frames)) ∷ placed_from (suc k) frames homes

-- what the classes do and remember: each is in its topmost frame, or at home
unfoldable pub behaviours_of : Stacked → List Behaviour
behaviours_of s = placed_from 0 s.frames s.homes

-- what a class does and remembers; one that is not there does nothing
abbrev pub behaviour_at : ℕ → List Behaviour → Behaviour
behaviour_at k bs = or_new (slice_get bs k)

abbrev pub bodies_in : List Behaviour → List (List (CallName × Act))
bodies_in bs = map (λ (b : Behaviour). b.bodies) bs

-- the actions of a callback's body
abbrev pub actions_at : CallName → ℕ → List Behaviour → List Act
actions_at call k bs = actions_of call (or_empty (slice_get (bodies_in bs) k))

-- all behaviours are at home
abbrev pub at_home : List Behaviour → Stacked
at_home bs = record { homes = map Some bs; frames = [] }

-- frames

-- the frames, as the definitions have them
unfoldable pub frames_of : Stacked → List Frame
frames_of s = map (seen (bodies_in (behaviours_of s))) s.frames

-- the topmost of some frames
abbrev pub top_of : List Frame → Option Frame
top_of [] = None
top_of (f ∷ []) = Some f
top_of (f ∷ g ∷ frames) = top_of (g ∷ frames)

-- those below it
abbrev pub below_top : List Frame → List Frame
below_top [] = []
below_top (f ∷ []) = []
below_top (f ∷ g ∷ frames) = f ∷ below_top (g ∷ frames)

-- a body, as its frame has it
pub record Running : Type 0 where
  pub class : ℕ
  pub args : Args
  pub this : Option ℕ
  pub guarded : Bool
  pub actions : List Act  -- those that are left

abbrev pub in_body : Running → Frame
in_body b = InBody b.class b.args b.this b.guarded b.actions

-- the topmost frame is of a body
pub record HasBody (frames : List Frame) : Type 0 where
  pub body : Running
  pub top : top_of frames ≡ Some (in_body body)

-- what `this` is in the topmost frame
abbrev pub this_of : Option Frame → Option ℕ
this_of (Some (InBody class args this guarded actions)) = this
this_of f = None

-- the class whose body it is of
abbrev pub owner_of : Option Frame → Option ℕ
owner_of (Some (InBody class args this guarded actions)) = Some class
owner_of f = None

-- whether its action stands in a `try`
abbrev pub guarded_of : Option Frame → Bool
guarded_of (Some (InBody class args this guarded actions)) = guarded
guarded_of f = false
