-- Turns of the body on top.
use Rattle.std.specs.Prelude.{◌≡◌, ◌≤◌, ℕ, Option, Some, None, Result, Ok, Err, IfSome, is_some}
use Rattle.ce_base.specs.declared.fault.Fault.{Fault}
use Rattle.ce_base.specs.declared.fault.Fault.TheVariants.{ReferenceError}
use Rattle.node_trees.specs.Nodes.{IsNode, size}
use Rattle.rule_tokens.specs.declared.operand.Operand.{Operand}
use Rattle.rule_lines.specs.Acts.{Act}
use Rattle.ce_algorithms.specs.declared.given.Given.{Given}
use Rattle.ce_algorithms.specs.declared.given.Given.TheVariants.{Node}
use Rattle.ce_algorithms.specs.Body.{Next}
use Rattle.ce_algorithms.specs.Operands.{node}
use Rattle.ce_algorithms.specs.State.{State, view}
use Rattle.ce_algorithms.specs.Steps.{◌>>◌, give, throw_if}
use Rattle.behaviours.specs.Resume.{BodyStop}
use Rattle.behaviours.specs.Turns.{fixed_turn, stop_turn}
use Rattle.ce_frames.specs.Frames.{Frame, Constructing, InBody}
use Rattle.ce_frames.specs.Handing.{given_of}
use Rattle.ce_frames.specs.BodyTurns.{body_turn, flow_turn, guarded_step}
use Rattle.ce_frames.specs.Turned.{Turn, ◌>>=◌, go_on}
use Rattle.frame_stack.specs.Sessions.{ArePaired, session}
use Rattle.body_frames.specs.Resumes.{is_guarded}
use Rattle.frame_stack.specs.Stacked.{Stacked, HasBody, below_top, frames_of, guarded_of, this_of, top_of}

-- a frame, or one that stands for it where there is none
abbrev pub or_constructing : Option Frame → Frame
or_constructing None = Constructing
or_constructing (Some f) = f

-- the topmost frame
abbrev pub frame_on_top : Stacked → Frame
frame_on_top stack = or_constructing (top_of (frames_of stack))

-- the body goes on with what is left of it
abbrev pub running_turn : Frame → Turn
running_turn (InBody class args this guarded actions) = body_turn class args this actions
running_turn f = go_on

-- it goes on where it has stopped
abbrev pub stopped_turn : BodyStop → Frame → Turn
stopped_turn stop (InBody class args this guarded actions) = stop_turn class args this actions stop
stopped_turn stop f = go_on

-- it does an action whose texts are fixed, in a `try` if its frame says so
abbrev pub acting_turn : Act → Frame → Turn
acting_turn action (InBody class args this guarded actions) = fixed_turn class args this guarded actions action
acting_turn action f = go_on

-- its base call has given this node: `this` is that node from now on, unless it was set before
abbrev pub based_turn : ℕ → Frame → Turn
based_turn n (InBody class args this guarded actions) = guarded_step guarded this (throw_if (is_some this) ReferenceError >> give (Next (Some n)))
    >>= flow_turn (λ next. body_turn class args next actions)
based_turn n f = go_on

-- what a body returns, or the fault of looking it up

abbrev pub given_node : Result ℕ Fault → Result Given Fault
given_node (Ok n) = Ok (Node n)
given_node (Err f) = Err f

abbrev pub answer : Option ℕ → State → Option Operand → Result Given Fault
answer this s None = Ok (given_of this)
answer this s (Some operand) = given_node (node (view this s) operand)

-- the body goes on in the same turn: what is left of it comes to the same
pub record GoesOn (old new : Stacked) (s s1 : State) (turn : Frame → Turn) : Type 0 where
  pub body : HasBody (frames_of new)
  pub below : below_top (frames_of new) ≡ below_top (frames_of old)
  pub this : IfSome (this_of (top_of (frames_of old))) (IsNode s.page.forest) → IfSome (this_of (top_of (frames_of new))) (IsNode s1.page.forest)
  pub same : running_turn (frame_on_top new) (session new s1) ≡ turn (frame_on_top old) (session old s)
  pub paired : ArePaired new s1
  pub grows : size s.page.forest ≤ size s1.page.forest
  pub fuel : s1.fuel ≤ s.fuel

-- the body on top has gone on, up to a stop
pub record StopsAt (old new : Stacked) (s s1 : State) (stop : BodyStop) : Type 0 where
  pub body : HasBody (frames_of new)
  pub below : below_top (frames_of new) ≡ below_top (frames_of old)
  pub this : this_of (top_of (frames_of new)) ≡ this_of (top_of (frames_of old))
  pub same : stopped_turn stop (frame_on_top new) (session new s1) ≡ running_turn (frame_on_top old) (session old s)
  pub guarded : guarded_of (top_of (frames_of new)) ≡ is_guarded stop
  pub paired : ArePaired new s1
