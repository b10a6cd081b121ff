-- The turns of operations and of commands.
use Rattle.std.proofs.Common.{◌≡◌, ℕ, true, false, Bool, List, [], ◌∷◌, ◌++◌, Some, None, Option, ◌≤◌, refl, ap, sym, ◌∙◌, subst, arith}
use Rattle.std.specs.Prelude.{Result, Ok, Err, IfOk, if◌then◌else◌}
use Rattle.ce_base.specs.declared.fault.Fault.{Fault}
use Rattle.ce_base.specs.declared.fault.Refused.{Refused as RefusedWith}
use Rattle.rule_lines.specs.declared.line.Cmd.{Cmd}
use Rattle.rule_lines.specs.declared.op.Op.{Op}
use Rattle.node_trees.specs.Nodes.{size}
use Rattle.node_trees.specs.Trees.{Trees}
use Rattle.reaction_queue.specs.Queues.{popped_queue, current_elements}
use Rattle.ce_algorithms.specs.declared.deed.Deed.{Deed}
use Rattle.ce_algorithms.specs.declared.deed.Deed.TheVariants as deeds
use Rattle.ce_algorithms.specs.declared.deed.Deed.TheVariants.{OnPage, OnControls, OnInternals, OnForms, Submits}
use Rattle.ce_events.specs.declared.event.Event.TheVariants.{DrainBegun}
use Rattle.ce_algorithms.specs.declared.given.Given.{Given}
use Rattle.ce_algorithms.specs.Deeds.{is_reacting, resolve, resolve_user, IsStill}
use Rattle.ce_algorithms.specs.Drain.{open_queue}
use Rattle.ce_algorithms.specs.Making.{make_document}
use Rattle.ce_algorithms.specs.Model.{model}
use Rattle.ce_algorithms.specs.Page.{with_queues}
use Rattle.ce_algorithms.specs.Perform.{steps}
use Rattle.ce_algorithms.specs.Perform as algorithms
use Rattle.ce_algorithms.specs.State.{State, logged, on_page, view}
use Rattle.ce_algorithms.specs.Steps.{Step, Outcome, Goes, attempt_in, settle}
use Rattle.ce_frames.specs.Frames as waiting
use Rattle.ce_frames.specs.Frames.{Frame}
use Rattle.ce_frames.specs.ConstructTurns.{construct_turn}
use Rattle.ce_frames.specs.OperateTurns.{create_named_turn, deed_turn, named_turn, next_turn, pop_turn, steps_turn}
use Rattle.ce_frames.specs.Turned.{Turn, ended, turn_after, below, hand_down}
use Rattle.ce_frames.proofs.BlindSteps.{resolve_blind, resolve_user_blind}
use Rattle.ce_frames.proofs.BlindTurns.{blind_below, blind_page, deed_turn_blind}
use Rattle.ce_page.specs.Ends.{Ends}
use Rattle.ce_page.specs.declared.stop.PageStop.{PageStop}
use Rattle.ce_outcomes.specs.Given.{IsThere}
use Rattle.ce_operations.specs.Resolved.{Resolves}
use Rattle.frame_stack.specs.Sessions.{session}
use Rattle.frame_stack.specs.Stacked.{Stacked, behaviours_of}
use Rattle.ce_outcomes.specs.declared.came.Came.{Came}
use Rattle.ce_drains.specs.Blind.{BlindAt}
use Rattle.ce_outcomes.specs.Placed.{IsKeptThere, Lasts, StaysPlaced}
use Rattle.ce_outcomes.specs.Turns.{Turns, came_in}
use Rattle.ce_drains.proofs.SessionLaws.{blind_at}
use Rattle.ce_outcomes.proofs.TurnLaws.{turns_as, turns_below, turns_same}

-- steps and their queue

next_lasts : (F : Trees) (queue : ℕ) (es : List ℕ) (kept : Result Given Fault) (s : State) → size F ≤ size s.page.forest → IsKeptThere s.page.forest kept
    → Lasts F (next_turn queue es kept s)
next_lasts F queue [] (Ok given) s le h = record { grows = le; gives = h; placed = tt }
next_lasts F queue [] (Err f) s le h = record { grows = le; gives = tt; placed = tt }
next_lasts F queue (n ∷ ns) kept s le h = record { grows = le; gives = h; placed = (tt, tt) }

pop_lasts : (F : Trees) (queue : ℕ) (kept : Result Given Fault) (s : State) → size F ≤ size s.page.forest → IsKeptThere s.page.forest kept
    → Lasts F (pop_turn queue kept s)
pop_lasts F queue kept s le h =
    next_lasts F queue (current_elements s.page.queues) kept (logged (DrainBegun queue) (record s { page = with_queues popped_queue s.page })) le h

stepped_lasts : (F : Trees) (queue : ℕ) (kept : Result Given Fault) (s : State) (o : Outcome State Given) → settle kept s ≡ o → size F ≤ size s.page.forest
    → IsKeptThere s.page.forest kept → Lasts F (turn_after (attempt_in o) (pop_turn queue))
stepped_lasts F queue (Ok given) s o e le h = subst (λ x. Lasts F (turn_after (attempt_in x) (pop_turn queue))) e (pop_lasts F queue (Ok given) s le h)
stepped_lasts F queue (Err f) s o e le h = subst (λ x. Lasts F (turn_after (attempt_in x) (pop_turn queue))) e (pop_lasts F queue (Err f) s le h)

pub went_lasts : (ran : Result Given PageStop) (given : Given) (queue : ℕ) (s : State) → ran ≡ Ok given → IfOk ran (IsThere s.page.forest)
    → (F : Trees) (o : Outcome State Given) → size F ≤ size s.page.forest → Ends (λ g. g) ran s o → Lasts F (turn_after (attempt_in o) (pop_turn queue))
went_lasts (Ok g) given queue s is h F o le e = stepped_lasts F queue (Ok g) s o e le h
went_lasts (Err x) given queue s is h F o le e = cc

-- their queue was pushed before
react_is : (queue : ℕ) (step : Step State Given) (s s1 : State) → Goes queue s1 ≡ open_queue s
    → turn_after (attempt_in (step s1)) (pop_turn queue) ≡ steps_turn step s
unfolding steps_turn
react_is queue step s s1 e = ap (λ (x : Outcome State ℕ). turn_after x (λ q t. turn_after (attempt_in (step t)) (pop_turn q))) e

pub react_turns : (frames new : List Frame) (now : Came) (queue : ℕ) (step : Step State Given) (s s1 s2 : State) → Goes queue s1 ≡ open_queue s
    → Turns frames new now s2 (turn_after (attempt_in (step s1)) (pop_turn queue)) → Turns frames new now s2 (steps_turn step s)
react_turns frames new now queue step s s1 s2 e h = turns_as frames new now s2 _ _ (react_is queue step s s1 e) h

pub react_lasts : (F : Trees) (queue : ℕ) (step : Step State Given) (s s1 : State) → Goes queue s1 ≡ open_queue s
    → Lasts F (turn_after (attempt_in (step s1)) (pop_turn queue)) → Lasts F (steps_turn step s)
react_lasts F queue step s s1 e h = subst (Lasts F) (react_is queue step s s1 e) h

-- a deed whose steps wait for nothing

by_queue : Bool → Deed → Turn
by_queue b deed = if b then steps_turn (steps model deed) else hand_down (steps model deed)

deed_is : (deed : Deed) (s : State) → IsStill deed → by_queue (is_reacting deed) deed s ≡ deed_turn deed s
unfolding by_queue deed_turn
deed_is (deeds.Create local is document) s h = absurd h
deed_is (deeds.New class) s h = absurd h
deed_is (deeds.Define name class base) s h = refl
deed_is (OnPage what) s h = refl
deed_is (OnControls what) s h = refl
deed_is (OnInternals what) s h = refl
deed_is (OnForms what) s h = refl
deed_is (Submits what) s h = refl
deed_is (deeds.Ask word n name) s h = refl
deed_is (deeds.Let var n) s h = refl

pub deed_reacts : (deed : Deed) (s : State) → IsStill deed → is_reacting deed ≡ true → steps_turn (steps model deed) s ≡ deed_turn deed s
unfolding by_queue
deed_reacts deed s still is = ap (λ b. by_queue b deed s) (sym is) ∙ deed_is deed s still

pub deed_runs : (deed : Deed) (s : State) → IsStill deed → is_reacting deed ≡ false → ended (steps model deed s) ≡ deed_turn deed s
unfolding by_queue
deed_runs deed s still is = ap (λ b. by_queue b deed s) (sym is) ∙ deed_is deed s still

pub deed_lasts : (F : Trees) (deed : Deed) (s : State) → IsStill deed → is_reacting deed ≡ false → Lasts F (ended (steps model deed s))
    → Lasts F (deed_turn deed s)
deed_lasts F deed s still is h = subst (Lasts F) (deed_runs deed s still is) h

pub react_deed_lasts : (F : Trees) (deed : Deed) (s : State) → IsStill deed → is_reacting deed ≡ true → Lasts F (steps_turn (steps model deed) s)
    → Lasts F (deed_turn deed s)
react_deed_lasts F deed s still is h = subst (Lasts F) (deed_reacts deed s still is) h

pub still_at : (deed : Deed) (s : State) → IsStill deed → BlindAt (deed_turn deed) s
still_at deed s still = blind_at (deed_turn deed) (deed_turn_blind deed still) s

pub react_deed_turns : (frames new : List Frame) (now : Came) (deed : Deed) (s s1 : State) → IsStill deed → is_reacting deed ≡ true
    → Turns frames new now s1 (steps_turn (steps model deed) s) → Turns frames new now s1 (deed_turn deed s)
react_deed_turns frames new now deed s s1 still is h = turns_as frames new now s1 _ _ (deed_reacts deed s still is) h

pub run_deed_turns : (frames : List Frame) (now : Came) (deed : Deed) (s s1 : State) → IsStill deed → is_reacting deed ≡ false
    → came_in now s1 ≡ steps model deed s → Turns frames frames now s1 (deed_turn deed s)
run_deed_turns frames now deed s s1 still is e = turns_as frames frames now s1 _ _ (deed_runs deed s still is) (turns_same frames now s1 _ e)

-- a creation

-- its queue was pushed before, and a frame waits for it
pub create_turns : (frames frames' new : List Frame) (now : Came) (queue : ℕ) (name : List ℕ) (is : Option (List ℕ)) (document : ℕ) (s s1 s2 : State)
    → Goes queue s1 ≡ open_queue s → frames' ≡ frames ++ waiting.Stepping queue ∷ [] → Turns frames' new now s2 (create_named_turn name is document s1)
    → Turns frames new now s2 (deed_turn (deeds.Create name is document) s)
unfolding deed_turn
create_turns frames frames' new now queue name is document s s1 s2 opened pushed h =
    turns_as frames new now s2 (below (waiting.Stepping queue) (create_named_turn name is document) s1) _
    (ap (λ (o : Outcome State ℕ). turn_after o (λ q. below (waiting.Stepping q) (create_named_turn name is document))) opened)
    (turns_below frames frames' new (waiting.Stepping queue) now (create_named_turn name is document) s1 s1 s2 pushed refl h)

pub create_lasts : (F : Trees) (queue : ℕ) (name : List ℕ) (is : Option (List ℕ)) (document : ℕ) (s s1 : State) → Goes queue s1 ≡ open_queue s
    → s1.page.forest ≡ F → Lasts s1.page.forest (create_named_turn name is document s1) → Lasts F (deed_turn (deeds.Create name is document) s)
unfolding deed_turn
create_lasts F queue name is document s s1 opened same h =
    let n = ap size same in
    let le = h.grows in
    subst (λ (o : Outcome State ℕ). Lasts F (turn_after o (λ q. below (waiting.Stepping q) (create_named_turn name is document)))) opened
    (record { grows = omega (arith, n, le); gives = h.gives; placed = (h.gives, h.placed) })

-- a construction
pub new_is : (class : ℕ) (s : State) → construct_turn class s ≡ deed_turn (deeds.New class) s
unfolding deed_turn
new_is class s = refl

-- operations

pub named_placed : (F : Trees) (var : Option (List ℕ)) (turn : Turn) (s : State) → Lasts F (turn s) → StaysPlaced F (named_turn var turn s)
named_placed F None turn s h = record { grows = h.grows; placed = h.placed }
named_placed F (Some var) turn s h = record { grows = h.grows; placed = (h.gives, h.placed) }

-- operands read no behaviour
pub resolved_whole : (this : Option ℕ) (op : Op) (old : Stacked) (s : State) (r : Result Deed RefusedWith) → Resolves r (resolve (view this s) op)
    → Resolves r (resolve (view this (session old s)) op)
resolved_whole this op old s r h = subst (λ (x : Result Deed Fault). Resolves r x) (sym (resolve_blind this op (behaviours_of old) s)) h

pub resolved_user_whole : (c : Cmd) (old : Stacked) (s : State) (r : Result Deed RefusedWith) → Resolves r (resolve_user (view None s) c)
    → Resolves r (resolve_user (view None (session old s)) c)
resolved_user_whole c old s r h = subst (λ (x : Result Deed Fault). Resolves r x) (sym (resolve_user_blind c (behaviours_of old) s)) h

-- commands

pub document_at : (var : List ℕ) (s : State) → BlindAt (named_turn (Some var) (hand_down (on_page (algorithms.gives_node make_document)))) s
document_at var s = blind_at (named_turn (Some var) (hand_down (on_page (algorithms.gives_node make_document))))
    (blind_below (waiting.Naming var) (blind_page (algorithms.gives_node make_document))) s
