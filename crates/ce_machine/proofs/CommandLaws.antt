-- A command by its turns comes to what the algorithms come to.
use Rattle.std.proofs.Common.{◌≡◌, ℕ, Bool, List, [], ◌++◌, map, Option, refl, ap, sym, ◌∙◌, subst}
use Rattle.ce_base.specs.Outside.{AppendsPart}
use Rattle.rule_lines.specs.declared.line.Cmd.{Cmd}
use Rattle.ce_events.specs.declared.event.Event.{Event}
use Rattle.ce_algorithms.specs.declared.given.Given.{Given}
use Rattle.ce_algorithms.specs.Model.{model}
use Rattle.ce_algorithms.specs.Session.{command, log_of}
use Rattle.ce_algorithms.specs.State.{State}
use Rattle.ce_algorithms.specs.Steps.{Outcome, Goes, Throws, Spent}
use Rattle.ce_events.specs.Text.{text}
use Rattle.ce_algorithms.specs.Written.{Did, behind_in}
use Rattle.ce_algorithms.proofs.Calm.{command-no_throw}
use Rattle.ce_algorithms.proofs.Writing.{did_through, did_nothing}
use Rattle.ce_frames.specs.Handing.{dropped, nothing}
use Rattle.ce_frames.specs.Rest.{outcome_of, rest}
use Rattle.ce_frames.specs.Loop.{command_turn}
use Rattle.ce_frames.specs.Turned.{Turned}
use Rattle.ce_frames.proofs.Joins.{dropped_nothing}
use Rattle.ce_frames.proofs.Looping.{begun_is}
use Rattle.ce_outcomes.specs.declared.came.Came.{Came}
use Rattle.ce_outcomes.specs.declared.came.Came.TheVariants.{Went, Threw, Over}
use Rattle.ce_machine.specs.Ended.{IsNoFault, end_for}
use Rattle.ce_machine.specs.Ended as endings
use Rattle.ce_outcomes.specs.Turns.{Turns, came_in, end_of}
use Rattle.ce_machine.specs.Turns.{over}
use Rattle.ce_outcomes.specs.Placed.{ArePlaced, StaysPlaced}
use Rattle.ce_frames.specs.Frames.{Frame}
use Rattle.node_trees.specs.Trees.{Trees}
use Rattle.frame_stack.specs.Stacked.{Stacked, behaviours_of, bodies_in, frames_of}
use Rattle.ce_frames.specs.Places.{seen}

-- no frame lies there
pub none_seen : (stack : Stacked) → stack.frames ≡ [] → frames_of stack ≡ []
unfolding frames_of
none_seen stack h = ap (map (seen (bodies_in (behaviours_of stack)))) h

-- what it leaves to come
begun_over : (old new : Stacked) (now : Came) (line : ℕ) (c : Cmd) (s s1 : State) → frames_of old ≡ []
    → Turns (frames_of old) (frames_of new) now s1 (command_turn line c s) → over new (came_in now s1) ≡ nothing (command model line c s)
unfolding over
begun_over old new now line c s s1 none h =
    let t : Turned = command_turn line c s in
    ap (rest (frames_of new)) (ap (λ e. outcome_of e s1) h.end ∙ ap (outcome_of t.end) h.state)
    ∙ ap (λ l. rest l (outcome_of t.end t.state)) (h.frames ∙ ap (λ l. l ++ t.pushed) none)
    ∙ begun_is line c s

-- what its frames hand down is there
pub begun_placed : (under new : List Frame) (now : Came) (F : Trees) (s1 : State) (t : Turned) → under ≡ [] → Turns under new now s1 t → StaysPlaced F t
    → ArePlaced s1.page.forest new (end_of now)
begun_placed under new now F s1 t none h k =
    subst (λ (G : Trees). ArePlaced G new (end_of now)) (sym (ap (λ (x : State). x.page.forest) h.state))
    (subst (λ e. ArePlaced t.state.page.forest new e) (sym h.end)
    (subst (λ (l : List Frame). ArePlaced t.state.page.forest l t.end) (sym (h.frames ∙ ap (λ l. l ++ t.pushed) none)) k.placed))

-- its end

dropped_behind : (events : List Event) (o : Outcome State Given) → dropped (behind_in events o) ≡ behind_in events (dropped o)
dropped_behind events (Goes g s) = refl
dropped_behind events (Throws f s) = refl
dropped_behind events (Spent s) = refl

did_dropped : {t : Bool} {h0 h1 : Option (List ℕ)} {o x : Outcome State Given} → Did t h0 h1 o x → Did t h0 h1 (dropped o) (dropped x)
did_dropped {x} d = did_through dropped d (λ events. dropped_behind events x) did_nothing

-- the loop's outcome is the command's
command_did : {t : Bool} {h0 h1 : Option (List ℕ)} {x : Outcome State Given} (old new : Stacked) (now : Came) (line : ℕ) (c : Cmd) (s s1 : State)
    → frames_of old ≡ [] → Turns (frames_of old) (frames_of new) now s1 (command_turn line c s) → Did t h0 h1 (over new (came_in now s1)) x
    → Did t h0 h1 (command model line c s) (dropped x)
command_did {t} {h0} {h1} {x} old new now line c s s1 none h d =
    subst (λ o. Did t h0 h1 o (dropped x)) (ap dropped (begun_over old new now line c s s1 none h) ∙ dropped_nothing (command model line c s)) (did_dropped d)

pub command_ran : {t : Bool} {h0 h1 : Option (List ℕ)} (old new : Stacked) (now last : Came) (line : ℕ) (c : Cmd) (s s1 s2 : State) → frames_of old ≡ []
    → Turns (frames_of old) (frames_of new) now s1 (command_turn line c s) → Did t h0 h1 (over new (came_in now s1)) (came_in last s2)
    → Did t h0 h1 (command model line c s) (endings.outcome_of (end_for last) s2)
command_ran old new now (Went g) line c s s1 s2 none h d = command_did old new now line c s s1 none h d
command_ran old new now (Threw f) line c s s1 s2 none h d = let e =
    command_did old new now line c s s1 none h d in absurd (command-no_throw line c s s2 f e.events e.same)
command_ran old new now Over line c s s1 s2 none h d = command_did old new now line c s s1 none h d

-- none throws
pub command_is_quiet : {t : Bool} {h0 h1 : Option (List ℕ)} (old new : Stacked) (now last : Came) (line : ℕ) (c : Cmd) (s s1 s2 : State) → frames_of old ≡ []
    → Turns (frames_of old) (frames_of new) now s1 (command_turn line c s) → Did t h0 h1 (over new (came_in now s1)) (came_in last s2) → IsNoFault last
command_is_quiet old new now (Went g) line c s s1 s2 none h d = tt
command_is_quiet old new now (Threw f) line c s s1 s2 none h d = let e =
    command_did old new now line c s s1 none h d in command-no_throw line c s s2 f e.events e.same
command_is_quiet old new now Over line c s s1 s2 none h d = tt

log_nothing : (o : Outcome State (Unit {0})) → log_of (nothing o) ≡ log_of o
log_nothing (Goes x s) = refl
log_nothing (Throws f s) = refl
log_nothing (Spent s) = refl

-- a front of it was written
pub command_part : (t : Bool) (h0 h1 : Option (List ℕ)) (old new : Stacked) (now : Came) (line : ℕ) (c : Cmd) (s s1 : State) → frames_of old ≡ []
    → Turns (frames_of old) (frames_of new) now s1 (command_turn line c s) → AppendsPart h0 h1 (text t (log_of (over new (came_in now s1))))
    → AppendsPart h0 h1 (text t (log_of (command model line c s)))
command_part t h0 h1 old new now line c s s1 none h p =
    subst (λ l. AppendsPart h0 h1 (text t l)) (ap log_of (begun_over old new now line c s s1 none h) ∙ log_nothing (command model line c s)) p
