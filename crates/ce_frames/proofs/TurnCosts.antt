-- Each turn lowers what is left to do.
use Rattle.std.proofs.Common.{◌≡◌, ℕ, ◌+◌, ◌≤◌, ◌<◌, true, List, [], ◌∷◌, ◌++◌, Option, Some, None, refl, arith}
use Rattle.std.specs.Prelude.{Result, Ok, Err, sum_by}
use Rattle.std.proofs.lemmas.List.Sums.{sum_by-cons, sum_by-append}
use Rattle.ce_base.specs.declared.fault.Fault.{Fault}
use Rattle.ce_base.specs.declared.fault.Fault.TheVariants.{ReferenceError}
use Rattle.reaction_queue.specs.declared.reaction.Reaction.{Reaction}
use Rattle.reaction_queue.specs.declared.reaction.Reaction.TheVariants.{Upgrade}
use Rattle.reaction_queue.specs.Reactions.{what_of}
use Rattle.reaction_queue.specs.Queues.{waiting_at, with_waiting}
use Rattle.ce_registry.specs.declared.definition.Definition.{Definition}
use Rattle.ce_events.specs.declared.event.Event.TheVariants.{Caught, DrainBegun, Started, QueueClosed, Reported, Finished}
use Rattle.ce_algorithms.specs.declared.given.Given.{Given}
use Rattle.ce_algorithms.specs.declared.given.Given.TheVariants.{Node}
use Rattle.ce_algorithms.specs.Steps.{Spent, throw}
use Rattle.ce_algorithms.specs.Page.{with_queues, definition_of}
use Rattle.ce_algorithms.specs.State.{State, class_of, logged}
use Rattle.ce_algorithms.specs.Values.{args_of}
use Rattle.ce_algorithms.specs.Drain.{actions_for, with_backup}
use Rattle.ce_algorithms.specs.Session.{reply}
use Rattle.ce_algorithms.proofs.PageSteps.{keeps_pop_construction}
use Rattle.ce_frames.specs.Frames.{Frame, Replying, Checking, DrainingBackup, Naming, Stepping, Draining, InReaction, CreatingFit, CreatingExtended, Upgrading}
use Rattle.ce_frames.specs.Frames.{Constructing, InBody}
use Rattle.ce_frames.specs.Handing.{node_in}
use Rattle.ce_frames.specs.Rest.{WaitEnd, Went, Threw, Over}
use Rattle.ce_frames.specs.Work.{weight, potential, work}
use Rattle.ce_frames.specs.Turned.{Turned, hand_down, left, Turn}
use Rattle.ce_frames.specs.ConstructTurns.{created_turn, upgrade_result_turn, upgraded_turn}
use Rattle.ce_frames.specs.DrainTurns.{call_turn, reaction_turn, take_turn, taken_turn, drain_turn, next_backup_turn, taken_backup_turn, checked_turn}
use Rattle.ce_frames.specs.Turns.{turn_went, turn_threw, turn}
use Rattle.ce_frames.proofs.Falls.{falls_give, falls_read, falls_read_page, falls_log, logged_potential, Sinks, sinks, falls_page, falls_attempt, falls_found}
use Rattle.ce_frames.proofs.Falls.{falls_throw}
use Rattle.ce_frames.proofs.StepFalls.{falls_told, falls_log_call, falls_named, falls_fitting_given, falls_same_given, falls_create_failed}
use Rattle.ce_frames.proofs.StepFalls.{falls_upgrade_failed, falls_upgrade_threw, falls_upgrade_ends}
use Rattle.ce_frames.proofs.Costs.{cost, Costs, cost_ended, cost_with_below, costs_down, costs_more, costs_go_on, costs_below, costs_bind, costs_seq}
use Rattle.ce_frames.proofs.Costs.{taken_potential, backup_potential}
use Rattle.ce_frames.proofs.MakeCosts.{begin_costs, upgrade_costs, close_costs, next_costs, pop_costs, body_costs, falls_gives_node, falls_gives_nothing}

-- reactions

call_costs : (n : ℕ) (r : Reaction) (d : Option Definition) → Costs 1 (call_turn n r d)
call_costs n r None = costs_more 0 1 (omega arith) costs_go_on
call_costs n r (Some d) =
    costs_seq 1 (falls_log_call n r)
    (costs_bind 1 (falls_read (λ s. class_of s d.class)) (λ k. begin_costs d.class (args_of r) (Some n) (actions_for (what_of r) k.bodies)))

reaction_costs : (n : ℕ) (r : Reaction) → Costs 3 (reaction_turn n r)
unfolding reaction_turn
reaction_costs n (Upgrade d) = upgrade_costs n d
reaction_costs n r = costs_bind 3 (falls_read_page (λ p. definition_of p n)) (λ d. costs_more 1 3 (omega arith) (call_costs n r d))

-- the reaction that is taken pays for what it starts
take_cost : (f : Frame) (n : ℕ) (w : ℕ × Reaction) (ws : List (ℕ × Reaction)) (s : State) → waiting_at s.page.queues n ≡ w ∷ ws
    → cost (take_turn f n w ws s) < potential s + weight f
take_cost f n w ws s is =
    let t : State = record s { page = with_queues (with_waiting n ws) s.page } in
    let u : State = logged (Started w.0) t in
    let a = (costs_below 4 f (costs_below 3 (InReaction w.0) (reaction_costs n w.1))).at u in
    let b = logged_potential (Started w.0) t in
    let c = taken_potential n w ws s is in
    omega (arith, a, b, c)

-- queues

taken_cost : (queue n : ℕ) (ns : List ℕ) (kept : Result Given Fault) (waiting : List (ℕ × Reaction)) (s : State)
    → waiting_at s.page.queues n ≡ waiting → cost (taken_turn queue n ns kept waiting s) < potential s + weight (Draining queue (n ∷ ns) kept)
taken_cost queue n ns kept [] s is = let a = (next_costs queue ns kept).at s in omega (arith, a)
taken_cost queue n ns kept (w ∷ ws) s is = take_cost (Draining queue (n ∷ ns) kept) n w ws s is

drain_cost : (queue : ℕ) (elements : List ℕ) (kept : Result Given Fault) (s : State)
    → cost (drain_turn queue elements kept s) < potential s + weight (Draining queue elements kept)
drain_cost queue [] kept s = let a = (close_costs queue kept).at s in omega (arith, a)
drain_cost queue (n ∷ ns) kept s = taken_cost queue n ns kept (waiting_at s.page.queues n) s refl

-- the element that is taken pays for its frame
next_backup_cost : (elements : List ℕ) (s : State) → s.page.queues.backup ≡ elements → cost (next_backup_turn elements s) ≤ potential s
next_backup_cost [] s is = let h : Costs 0 (next_backup_turn []) = costs_seq 0 (falls_log (QueueClosed 0)) costs_go_on in let a = h.at s in omega (arith, a)
next_backup_cost (n ∷ ns) s is =
    let t : State = record s { page = with_queues (with_backup ns) s.page } in
    let a = (costs_below 0 (DrainingBackup n) costs_go_on).at t in
    let b = backup_potential n ns s is in
    omega (arith, a, b)

taken_backup_cost : (n : ℕ) (waiting : List (ℕ × Reaction)) (s : State) → waiting_at s.page.queues n ≡ waiting
    → cost (taken_backup_turn n waiting s) < potential s + 1
taken_backup_cost n [] s is = let a = next_backup_cost s.page.queues.backup s refl in omega (arith, a)
taken_backup_cost n (w ∷ ws) s is = take_cost (DrainingBackup n) n w ws s is

checked_cost : (line : ℕ) (kept : Result Given Fault) (elements : List ℕ) (s : State) → s.page.queues.backup ≡ elements
    → cost (checked_turn line kept elements s) ≤ potential s + 1
checked_cost line kept [] s is =
    let h : Costs 0 (checked_turn line kept []) = costs_seq 0 (falls_log (reply line kept)) costs_go_on in let a = h.at s in omega (arith, a)
checked_cost line kept (n ∷ ns) s is =
    let t : State = logged (DrainBegun 0) s in
    let a = cost_with_below (Checking line kept) (next_backup_turn (n ∷ ns) t) in
    let b = next_backup_cost (n ∷ ns) t is in
    let c = logged_potential (DrainBegun 0) s in
    omega (arith, a, b, c)

-- a construction has ended

created_costs : (local : List ℕ) (document : ℕ) (result : Result ℕ Fault) → Costs 0 (created_turn local document result)
created_costs local document (Ok n) = costs_down (falls_give (Node n))
created_costs local document (Err x) = costs_down (falls_gives_node (falls_create_failed local document x))

upgrade_result_costs : (n : ℕ) (result : Result (Unit {0}) Fault) → Costs 0 (upgrade_result_turn n result)
upgrade_result_costs n (Ok x) = costs_seq 0 (falls_upgrade_ends n) costs_go_on
upgrade_result_costs n (Err x) = costs_down (falls_gives_nothing (falls_upgrade_threw n x))

upgraded_costs : (n d : ℕ) (result : Result (Unit {0}) Fault) → Costs 0 (upgraded_turn n d result)
upgraded_costs n d result = costs_seq 0 (falls_page (keeps_pop_construction Sinks sinks d)) (upgrade_result_costs n result)

-- turns

weight_some : (f : Frame) → 0 < weight f
weight_some (Replying line) = omega arith
weight_some (Checking line kept) = omega arith
weight_some (DrainingBackup n) = omega arith
weight_some (Naming var) = omega arith
weight_some (Stepping queue) = omega arith
weight_some (Draining queue elements kept) = omega arith
weight_some (InReaction number) = omega arith
weight_some (CreatingFit local document) = omega arith
weight_some (CreatingExtended n) = omega arith
weight_some (Upgrading n d) = omega arith
weight_some Constructing = omega arith
weight_some (InBody class args this guarded actions) = omega arith

-- the frame goes, and nothing is pushed that was not paid for
gone : {turn : Turn} (f : Frame) (s : State) → Costs 0 turn → cost (turn s) < potential s + weight f
gone f s h = let a = h.at s in let b = weight_some f in omega (arith, a, b)

went_cost : (f : Frame) (given : Given) (s : State) → cost (turn_went f given s) < potential s + weight f
went_cost (Replying line) given s = let a = checked_cost line (Ok given) s.page.queues.backup s refl in omega (arith, a)
went_cost (Checking line kept) given s = gone (Checking line kept) s (costs_seq 0 (falls_log (reply line kept)) costs_go_on)
went_cost (DrainingBackup n) given s = taken_backup_cost n (waiting_at s.page.queues n) s refl
went_cost (Naming var) given s = gone (Naming var) s (costs_down (falls_named (Some var) given))
went_cost (Stepping queue) given s = let a = (pop_costs queue (Ok given)).at s in omega (arith, a)
went_cost (Draining queue elements kept) given s = drain_cost queue elements kept s
went_cost (InReaction number) given s = gone (InReaction number) s (costs_seq 0 (falls_log (Finished number)) costs_go_on)
went_cost (CreatingFit local document) given s =
    gone (CreatingFit local document) s (costs_bind 0 (falls_attempt (falls_fitting_given local document given)) (created_costs local document))
went_cost (CreatingExtended n) given s = gone (CreatingExtended n) s (costs_down (falls_give (Node n)))
went_cost (Upgrading n d) given s = gone (Upgrading n d) s (costs_bind 0 (falls_attempt (falls_same_given n given)) (upgraded_costs n d))
went_cost Constructing given s = gone Constructing s (costs_down (falls_gives_node (falls_found (node_in given) ReferenceError)))
went_cost (InBody class args this guarded actions) given s =
    gone (InBody class args this guarded actions) s (costs_seq 0 (falls_told given) (body_costs class args this actions))

-- a fault that is handed down
through : (f : Frame) (x : Fault) (s : State) → cost (hand_down (throw x) s) < potential s + weight f
through f x s = gone f s (costs_down (falls_throw x))

threw_cost : (f : Frame) (x : Fault) (s : State) → cost (turn_threw f x s) < potential s + weight f
threw_cost (Replying line) x s = let a = checked_cost line (Err x) s.page.queues.backup s refl in omega (arith, a)
threw_cost (Stepping queue) x s = let a = (pop_costs queue (Err x)).at s in omega (arith, a)
threw_cost (InReaction number) x s = gone (InReaction number) s (costs_seq 0 (falls_log (Reported x)) (costs_seq 0 (falls_log (Finished number)) costs_go_on))
threw_cost (CreatingFit local document) x s = gone (CreatingFit local document) s (created_costs local document (Err x))
threw_cost (CreatingExtended n) x s = gone (CreatingExtended n) s (costs_seq 0 (falls_upgrade_failed n x) (costs_down (falls_give (Node n))))
threw_cost (Upgrading n d) x s = gone (Upgrading n d) s (upgraded_costs n d (Err x))
threw_cost (InBody class args this true actions) x s =
    gone (InBody class args this true actions) s (costs_seq 0 (falls_log (Caught x)) (body_costs class args this actions))
threw_cost f x s = through f x s

-- without the frames below it
pub turn_cost : (f : Frame) (end : WaitEnd) (s : State) → cost (turn f end s) < potential s + weight f
unfolding turn
turn_cost f (Went given) s = went_cost f given s
turn_cost f (Threw x) s = threw_cost f x s
turn_cost f Over s = let a = cost_ended (Spent s) in let b = weight_some f in omega (arith, a, b)

cost_is : (t : Turned) → potential t.state + sum_by weight t.pushed ≡ cost t
unfolding cost
cost_is t = refl

-- with them
pub turn_lowers : (frames : List Frame) (f : Frame) (end : WaitEnd) (s : State) → left frames (turn f end s) < work (frames ++ f ∷ []) s
turn_lowers frames f end s =
    let t : Turned = turn f end s in
    let a = sum_by-append weight frames t.pushed in
    let b = cost_is t in
    let c = turn_cost f end s in
    let d = sum_by-append weight frames (f ∷ []) in
    let e = sum_by-cons weight f [] in
    omega (arith, a, b, c, d, e)
