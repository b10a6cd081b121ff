-- Turns of bodies: a body goes on up to its next operation, through any number of other actions.
use Rattle.std.specs.Prelude.{ℕ, Bool, false, true, if◌then◌else◌, List, [], ◌∷◌, Option}
use Rattle.rule_lines.specs.Acts.{Act, Both, Try, If}
use Rattle.ce_algorithms.specs.Steps.{Step, give}
use Rattle.ce_algorithms.specs.State.{State, spend}
use Rattle.ce_algorithms.specs.Values.{Args, text_of, fixed}
use Rattle.ce_algorithms.specs.Body.{Flow, Next, Ended, act, holds, memory_of}
use Rattle.ce_frames.specs.Frames.{InBody}
use Rattle.ce_frames.specs.Handing.{given_of}
use Rattle.ce_frames.specs.After.{guard}
use Rattle.ce_frames.specs.Turned.{Turn, ◌>>=◌, ◌>>◌, hand_down, below, no_calls}
use Rattle.ce_frames.specs.OperateTurns.{operate_turn}

-- an action, in a `try` or not
abbrev pub guarded_step : Bool → Option ℕ → Step State Flow → Step State Flow
guarded_step guarded this step s = guard guarded this (step s)

-- the body goes on with what is left of it, or it has ended
abbrev pub flow_turn : (Option ℕ → Turn) → Flow → Turn
flow_turn rest (Next this) = rest this
flow_turn rest (Ended result) = hand_down (give (given_of result))

-- an action, and then the turn of what is left of the body. An operation runs above a frame with the actions that come
-- after it. Two `try`s around an action catch as one does
unfoldable pub act_turn : ℕ → Args → Option ℕ → Bool → List Act → (Option ℕ → Turn) → Act → Turn
act_turn class args this guarded actions rest (Both op) = do
  memory ← memory_of class
  below (InBody class args this guarded actions) (operate_turn this (fixed memory args op))
act_turn class args this guarded actions rest (Try a) = do
  spend
  act_turn class args this true actions rest a
act_turn class args this guarded actions rest (If equal left right a) = do
  memory ← memory_of class
  if holds equal (text_of memory args left) (text_of memory args right) then spend >> act_turn class args this guarded actions rest a else rest this
act_turn class args this guarded actions rest a = do
  flow ← guarded_step guarded this (act no_calls class args this a)
  flow_turn rest flow

-- a body of a class: one fuel for each action, before it runs
unfoldable pub body_turn : ℕ → Args → Option ℕ → List Act → Turn
body_turn class args this [] = hand_down (give (given_of this))
body_turn class args this (a ∷ actions) = do
  spend
  act_turn class args this false actions (λ next. body_turn class args next actions) a
