-- The turn of a body, from where it has stopped on.
use Rattle.std.specs.Prelude.{ℕ, Bool, List, map, Option, slice_set}
use Rattle.rule_lines.specs.Acts.{Act, Both, Log}
use Rattle.ce_events.specs.declared.event.Event.TheVariants.{Logged}
use Rattle.ce_algorithms.specs.Steps.{throw}
use Rattle.ce_algorithms.specs.State.{State, Memory, class_of, log, ended_by_fuel}
use Rattle.ce_algorithms.specs.Values.{Args, fixed_text}
use Rattle.ce_algorithms.specs.Body.{returned}
use Rattle.ce_frames.specs.Frames.{InBody}
use Rattle.ce_frames.specs.Turned.{Turn, ◌>>=◌, ◌>>◌, below, ended}
use Rattle.ce_frames.specs.BodyTurns.{guarded_step, flow_turn, act_turn, body_turn}
use Rattle.ce_frames.specs.OperateTurns.{operate_turn}
use Rattle.class_bodies.specs.Resume.{BodyStop, Doing, Returning, Throwing, OutOfFuel, Resumed}

-- the state in which the class remembers this, with this fuel
abbrev pub remembering : ℕ → Memory → ℕ → State → State
remembering class memory fuel s = record s { fuel = fuel; classes = slice_set s.classes class (record (class_of s class) { memory = memory }) }

-- an action whose texts are fixed, and then what is left of the body. An operation runs above a frame with what is left
abbrev pub fixed_turn : ℕ → Args → Option ℕ → Bool → List Act → Act → Turn
fixed_turn class args this guarded left (Both op) = below (InBody class args this guarded left) (operate_turn this op)
fixed_turn class args this guarded left (Log vals) = log (Logged (map fixed_text vals)) >> body_turn class args this left
fixed_turn class args this guarded left action = act_turn class args this guarded left (λ next. body_turn class args next left) action

abbrev pub stop_turn : ℕ → Args → Option ℕ → List Act → BodyStop → Turn
stop_turn class args this left (Doing action guarded) = fixed_turn class args this guarded left action
stop_turn class args this left (Returning value guarded) = guarded_step guarded this (returned this value)
    >>= flow_turn (λ next. body_turn class args next left)
stop_turn class args this left (Throwing fault guarded) = guarded_step guarded this (throw fault) >>= flow_turn (λ next. body_turn class args next left)
stop_turn class args this left OutOfFuel = λ s. ended (ended_by_fuel s)

-- the turn goes on where the body has stopped
abbrev pub resumed_turn : ℕ → Args → Option ℕ → Resumed → Turn
resumed_turn class args this r s = stop_turn class args this r.left r.stop (remembering class r.memory r.fuel s)
