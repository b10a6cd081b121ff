-- The machine: one loop over frames.
use Rattle.std.specs.Prelude.{ℕ, zero, suc, List, [], ◌∷◌, Some, None}
use Rattle.rule_lines.specs.declared.line.Cmd.{Cmd}
use Rattle.rule_lines.specs.declared.line.Cmd.TheVariants.{Both, Doc}
use Rattle.ce_algorithms.specs.declared.given.Given.{Given}
use Rattle.ce_algorithms.specs.Steps.{Outcome, Spent}
use Rattle.ce_algorithms.specs.Making.{make_document}
use Rattle.ce_algorithms.specs.State.{State, on_page, spend}
use Rattle.ce_algorithms.specs.Perform.{gives_node}
use Rattle.ce_frames.specs.Frames.{Frame, Replying}
use Rattle.ce_frames.specs.Rest.{WaitEnd, outcome_of}
use Rattle.ce_frames.specs.Work.{work}
use Rattle.ce_frames.specs.Turned.{Turned, Turn, ◌>>◌, hand_down, below}
use Rattle.ce_frames.specs.OperateTurns.{named_turn, operate_turn, user_turn}
use Rattle.ce_frames.specs.Turns.{turn}

-- what a command performs
unfoldable pub perform_turn : Cmd → Turn
perform_turn (Both op) = operate_turn None op
perform_turn (Doc var) = named_turn (Some var) (hand_down (on_page (gives_node make_document)))
perform_turn c = user_turn c

-- a command begins: one fuel, and what it performs
abbrev pub command_turn : ℕ → Cmd → Turn
command_turn line c = spend >> below (Replying line) (perform_turn c)

-- frames that a turn pushed, on those that lie there, the topmost first
abbrev pub onto : List Frame → List Frame → List Frame
onto [] frames = frames
onto (f ∷ pushed) frames = onto pushed (f ∷ frames)

-- at most so many turns, until no frame is left; the topmost frame comes first
unfoldable pub loop : ℕ → List Frame → WaitEnd → State → Outcome State Given
loop zero frames end s = Spent s
loop (suc n) [] end s = outcome_of end s
loop (suc n) (f ∷ frames) end s = let t : Turned = turn f end s in loop n (onto t.pushed frames) t.end t.state

-- where a turn ended, the loop. Each further turn lowers what is left to do, so it takes no more turns than that
abbrev pub loop_from : Turned → Outcome State Given
loop_from t = loop (suc (work t.pushed t.state)) (onto t.pushed []) t.end t.state

-- a command, by the loop
unfoldable pub looped : ℕ → Cmd → State → Outcome State Given
looped line c s = loop_from (command_turn line c s)
