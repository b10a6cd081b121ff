-- The loop comes to what the model comes to.
use Rattle.std.proofs.Common.{◌≡◌, ℕ, zero, suc, ◌+◌, ◌<◌, List, [], ◌∷◌, Some, None, refl, ap, ◌∙◌, arith}
use Rattle.std.specs.Prelude.{sum_by}
use Rattle.std.proofs.lemmas.List.Sums.{sum_by-cons}
use Rattle.rule_lines.specs.declared.line.Cmd.{Cmd}
use Rattle.rule_lines.specs.declared.line.Cmd.TheVariants.{Both, Doc}
use Rattle.ce_algorithms.specs.declared.given.Given.{Given}
use Rattle.ce_algorithms.specs.Steps.{Outcome, then_do, attempt_in}
use Rattle.ce_algorithms.specs.Making.{make_document}
use Rattle.ce_algorithms.specs.State.{State, on_page}
use Rattle.ce_algorithms.specs.Perform.{gives_node}
use Rattle.ce_algorithms.specs.Model.{model}
use Rattle.ce_algorithms.specs.Session.{perform, reply_to, command}
use Rattle.ce_frames.specs.Frames.{Frame, Replying}
use Rattle.ce_frames.specs.Handing.{nothing}
use Rattle.ce_frames.specs.After.{after}
use Rattle.ce_frames.specs.Rest.{rest, WaitEnd, outcome_of}
use Rattle.ce_frames.specs.Work.{weight, work}
use Rattle.ce_frames.specs.Turned.{Turned, below, to_come}
use Rattle.ce_frames.specs.Turns.{turn}
use Rattle.ce_frames.specs.Loop.{perform_turn, command_turn, onto, loop, loop_from, looped}
use Rattle.ce_frames.proofs.Comes.{comes, Comes, comes_down, comes_below, comes_then}
use Rattle.ce_frames.proofs.OperateComes.{named_comes, operate_comes, user_comes}
use Rattle.ce_frames.proofs.TurnComes.{turn_comes, comes_is}
use Rattle.ce_frames.proofs.Costs.{cost}
use Rattle.ce_frames.proofs.TurnCosts.{turn_cost}

-- the loop

-- frames, the topmost first
unfoldable down : List Frame → Outcome State Given → Outcome State Given
down [] o = o
down (f ∷ frames) o = down frames (after f o)

down_onto : (pushed frames : List Frame) (o : Outcome State Given) → down (onto pushed frames) o ≡ down frames (rest pushed o)
unfolding down rest
down_onto [] frames o = refl
down_onto (f ∷ pushed) frames o = down_onto pushed (f ∷ frames) o

onto_weight : (pushed frames : List Frame) → sum_by weight (onto pushed frames) ≡ sum_by weight pushed + sum_by weight frames
onto_weight [] frames = omega arith
onto_weight (f ∷ pushed) frames =
    let a = onto_weight pushed (f ∷ frames) in
    let b = sum_by-cons weight f pushed in
    let c = sum_by-cons weight f frames in
    omega (arith, a, b, c)

-- where a turn has ended
turned_down : (t : Turned) (frames : List Frame) → down (onto t.pushed frames) (outcome_of t.end t.state) ≡ down frames (comes t)
unfolding comes
turned_down t frames = down_onto t.pushed frames (outcome_of t.end t.state)

turned_work : (t : Turned) (frames : List Frame) → work (onto t.pushed frames) t.state ≡ cost t + sum_by weight frames
unfolding cost
turned_work t frames = let a = onto_weight t.pushed frames in omega (arith, a)

-- more turns than there is work left are enough
loop_is : (n : ℕ) (frames : List Frame) (end : WaitEnd) (s : State) → work frames s < n → loop n frames end s ≡ down frames (outcome_of end s)
unfolding loop down
loop_is zero frames end s h = absurd (omega arith)
loop_is (suc n) [] end s h = refl
loop_is (suc n) (f ∷ frames) end s h =
    let t : Turned = turn f end s in
    let a = turned_work t frames in
    let b = turn_cost f end s in
    let c = sum_by-cons weight f frames in
    loop_is n (onto t.pushed frames) t.end t.state (omega (arith, a, b, c, h)) ∙ turned_down t frames ∙ ap (down frames) (turn_comes f end s)

down_none : (o : Outcome State Given) → down [] o ≡ o
unfolding down
down_none o = refl

loop_from_is : (t : Turned) → loop_from t ≡ comes t
loop_from_is t =
    let a = onto_weight t.pushed [] in
    loop_is (suc (work t.pushed t.state)) (onto t.pushed []) t.end t.state (omega (arith, a)) ∙ turned_down t [] ∙ down_none (comes t)

-- commands

perform_comes : (c : Cmd) → Comes (perform_turn c) (perform model c)
unfolding perform_turn
perform_comes (Both op) = operate_comes None op
perform_comes (Doc var) = named_comes (Some var) (comes_down (on_page (gives_node make_document)))
perform_comes c = user_comes c

replying_comes : (line : ℕ) (c : Cmd)
    → Comes (below (Replying line) (perform_turn c)) (λ s. nothing (then_do (attempt_in (perform model c s)) (reply_to model line)))
unfolding after
replying_comes line c = comes_below (Replying line) (perform_comes c) (λ s. refl)

command_comes : (line : ℕ) (c : Cmd) → Comes (command_turn line c) (λ s. nothing (command model line c s))
command_comes line c = comes_then _ _ _ (λ _. replying_comes line c)

-- one command begins
pub begun_is : (line : ℕ) (c : Cmd) (s : State) → to_come [] (command_turn line c s) ≡ nothing (command model line c s)
begun_is line c s = comes_is (command_turn line c s) ∙ (command_comes line c).at s

-- and the loop, which calls no model, comes to what the model comes to
pub looped_is : (line : ℕ) (c : Cmd) (s : State) → looped line c s ≡ nothing (command model line c s)
unfolding looped
looped_is line c s = loop_from_is (command_turn line c s) ∙ (command_comes line c).at s
