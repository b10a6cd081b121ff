-- A state without what its classes do and remember, and the behaviours of the classes beside it: together they are the
-- whole state. Most of what a machine does between two waits reads nothing of the behaviours.
use Rattle.std.specs.Prelude.{◌≡◌, true, List, [], ◌∷◌, length}
use Rattle.ce_algorithms.specs.Steps.{Step, Outcome, Goes, Throws, Spent}
use Rattle.ce_algorithms.specs.State.{State, Class}
use Rattle.ce_frames.specs.Frames.{Frame, DrainingBackup, Draining, InBody}
use Rattle.ce_frames.specs.Places.{Behaviour}
use Rattle.ce_frames.specs.Turned.{Turned, Turn}

-- a class that does and remembers what this behaviour says
abbrev pub joined_class : Class → Behaviour → Class
joined_class c b = record c { bodies = b.bodies; memory = b.memory }

-- classes with their behaviours, by their numbers; a class without one stays
abbrev pub joined : List Class → List Behaviour → List Class
joined [] bs = []
joined (c ∷ cs) [] = c ∷ cs
joined (c ∷ cs) (b ∷ bs) = joined_class c b ∷ joined cs bs

-- the state whose classes do and remember what these behaviours say
abbrev pub whole : List Behaviour → State → State
whole bs s = record s { classes = joined s.classes bs }

-- the same of an outcome's state
abbrev pub whole_in : {A : Type 0} → List Behaviour → Outcome State A → Outcome State A
whole_in bs (Goes a s) = Goes a (whole bs s)
whole_in bs (Throws f s) = Throws f (whole bs s)
whole_in bs (Spent s) = Spent (whole bs s)

-- and of where a turn has ended
abbrev pub whole_turned : List Behaviour → Turned → Turned
whole_turned bs t = record t { state = whole bs t.state }

-- the state where a step ended
abbrev pub state_in : {A : Type 0} → Outcome State A → State
state_in (Goes a s) = s
state_in (Throws f s) = s
state_in (Spent s) = s

-- a step reads nothing of what classes do and remember, and there are as many classes after it
pub record IsBlind {A : Type 0} (step : Step State A) : Type 0 where
  pub same : (bs : List Behaviour) (s : State) → step (whole bs s) ≡ whole_in bs (step s)
  pub classes : (s : State) → length (state_in (step s)).classes ≡ length s.classes

-- the same of a turn
pub record IsBlindTurn (t : Turn) : Type 0 where
  pub same : (bs : List Behaviour) (s : State) → t (whole bs s) ≡ whole_turned bs (t s)
  pub classes : (s : State) → length (t s).state.classes ≡ length s.classes

-- frames that go on with what was given and begin no body: all but those that drain, and those of bodies
abbrev pub GoesBlind : Frame → Type 0
GoesBlind (DrainingBackup element) = ⊥
GoesBlind (Draining queue elements kept) = ⊥
GoesBlind (InBody class args this guarded actions) = ⊥
GoesBlind f = Unit {0}

-- frames that take a fault and begin no body: all but those of bodies where a `try` is around what runs above
abbrev pub CatchesBlind : Frame → Type 0
CatchesBlind (InBody class args this true actions) = ⊥
CatchesBlind f = Unit {0}
