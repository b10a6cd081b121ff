-- Turns: what the machine does between one wait and the next. A turn calls no algorithm that runs a body. Where the
-- algorithms do, it pushes a frame, and what they call begins above it.
use Rattle.std.specs.Prelude.{ℕ, Bool, true, false, List, [], ◌∷◌, ◌++◌}
use Rattle.ce_algorithms.specs.declared.given.Given.{Given}
use Rattle.ce_algorithms.specs.declared.given.Given.TheVariants.{Nothing}
use Rattle.ce_algorithms.specs.Steps.{Step, Outcome, Goes, Throws, Spent, give}
use Rattle.ce_algorithms.specs.State.{State}
use Rattle.ce_algorithms.specs.Calls.{Again}
use Rattle.ce_frames.specs.Frames.{Frame}
use Rattle.ce_frames.specs.Rest.{WaitEnd, Went, Threw, Over, outcome_of, rest}
use Rattle.ce_frames.specs.Work.{work}

-- what a turn comes to
pub record Turned : Type 0 where
  pub pushed : List Frame  -- the frames that it pushed, the lowest first
  pub end : WaitEnd  -- what the topmost frame is handed
  pub state : State

-- what the machine does from a state on, up to the next wait
abbrev pub Turn : Type 0
Turn = State → Turned

-- no frame is pushed
abbrev pub ended : Outcome State Given → Turned
ended (Goes given s) = record { pushed = []; end = Went given; state = s }
ended (Throws f s) = record { pushed = []; end = Threw f; state = s }
ended (Spent s) = record { pushed = []; end = Over; state = s }

-- where an outcome goes on, the rest of the turn; a fault, or the end of the session, is handed down
abbrev pub turn_after : {A : Type 0} → Outcome State A → (A → Turn) → Turned
turn_after (Goes a s) next = next a s
turn_after (Throws f s) next = ended (Throws f s)
turn_after (Spent s) next = ended (Spent s)

infixl 10 ◌>>=◌
infixl 10 ◌>>◌
-- a step, and then the rest of the turn on its answer
abbrev pub ◌>>=◌ : {A : Type 0} → Step State A → (A → Turn) → Turn
◌>>=◌ step next s = turn_after (step s) next

-- a step, and then the rest of the turn
abbrev pub ◌>>◌ : {A : Type 0} → Step State A → Turn → Turn
◌>>◌ step next s = turn_after (step s) (λ _. next)

-- what a step gives is handed down
abbrev pub hand_down : Step State Given → Turn
hand_down step s = ended (step s)

-- nothing is handed down
abbrev pub go_on : Turn
go_on = hand_down (give Nothing)

-- what a turn comes to, with a frame below all that it pushed
abbrev pub with_below : Frame → Turned → Turned
with_below f t = record { pushed = f ∷ t.pushed; end = t.end; state = t.state }

-- a frame is pushed, and then the rest of the turn
abbrev pub below : Frame → Turn → Turn
below f next s = with_below f (next s)

-- what stands for the calls of a step that makes none
abbrev pub no_calls : Again
no_calls call s = Spent s

-- a turn only where a test holds
abbrev pub when_turn : Bool → Turn → Turn
when_turn true turn = turn
when_turn false turn = go_on

-- where a turn has ended, above these frames

-- what is still to come
abbrev pub to_come : List Frame → Turned → Outcome State Given
to_come frames t = rest (frames ++ t.pushed) (outcome_of t.end t.state)

-- what is left to do
abbrev pub left : List Frame → Turned → ℕ
left frames t = work (frames ++ t.pushed) t.state
