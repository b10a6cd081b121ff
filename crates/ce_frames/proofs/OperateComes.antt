-- The turns of operations come to what the algorithms come to.
use Rattle.std.proofs.Common.{◌≡◌, ℕ, ◌+◌, List, [], ◌∷◌, Option, Some, None, refl, ◌∙◌}
use Rattle.std.specs.Prelude.{Result, Ok, Err}
use Rattle.std.specs.Str.{str_to_ascii_lowercase}
use Rattle.ce_base.specs.declared.fault.Fault.{Fault}
use Rattle.rule_lines.specs.declared.line.Cmd.{Cmd}
use Rattle.rule_lines.specs.declared.op.Op.{Op}
use Rattle.reaction_queue.specs.Queues.{pushed_queue, popped_queue, current_elements}
use Rattle.ce_algorithms.specs.declared.deed.Deed.{Deed}
use Rattle.ce_algorithms.specs.declared.deed.Deed.TheVariants.{Create, New}
use Rattle.ce_events.specs.declared.event.Event.TheVariants.{QueueOpened, DrainBegun, QueueClosed}
use Rattle.ce_algorithms.specs.declared.given.Given.{Given}
use Rattle.ce_algorithms.specs.Steps.{Step, Outcome, Goes, Throws, Spent, then_do, settle, finally_in, attempt_in}
use Rattle.ce_algorithms.specs.Page.{with_queues}
use Rattle.ce_algorithms.specs.State.{State, logged, look}
use Rattle.ce_algorithms.specs.Deeds.{is_reacting, resolve_user, variable}
use Rattle.ce_algorithms.specs.Drain.{drain_popped, reacting}
use Rattle.ce_algorithms.specs.Perform.{create_named, steps, perform_deed, kept, operate, act_as_user}
use Rattle.ce_algorithms.specs.Model.{model}
use Rattle.ce_frames.specs.Frames.{Naming, Stepping}
use Rattle.ce_frames.specs.Handing.{a_node}
use Rattle.ce_frames.specs.After.{after, drain_on}
use Rattle.ce_frames.specs.Rest.{rest}
use Rattle.ce_frames.specs.Turned.{Turn, turn_after, below, no_calls}
use Rattle.ce_frames.specs.OperateTurns.{next_turn, pop_turn, steps_turn, create_named_turn, deed_turn, named_turn, operate_turn, user_turn}
use Rattle.ce_frames.proofs.Comes.{comes, Comes, comes_ended, comes_down, comes_below, comes_bind, comes_then, comes_if}
use Rattle.ce_frames.proofs.ConstructComes.{construct_comes, create_comes}

-- the queue around the steps

pub next_comes : (queue : ℕ) (elements : List ℕ) (kept : Result Given Fault) → Comes (next_turn queue elements kept) (drain_on queue elements kept)
unfolding comes rest after
next_comes queue [] kept = record { at = λ s. comes_ended (settle kept (logged (QueueClosed queue) s)) }
next_comes queue (n ∷ ns) kept = record { at = λ s. refl }

pub pop_comes : (queue : ℕ) (kept : Result Given Fault) → Comes (pop_turn queue kept) (λ s. then_do (drain_popped model queue s) (λ _. settle kept))
pop_comes queue kept =
    record {
      at = λ s. (next_comes queue (current_elements s.page.queues) kept).at
          (logged (DrainBegun queue) (record s { page = with_queues popped_queue s.page }));
    }

-- the steps have ended so
stepped_comes : (queue : ℕ) (o : Outcome State Given) → comes (turn_after (attempt_in o) (pop_turn queue)) ≡ finally_in o (drain_popped model queue)
stepped_comes queue (Goes given s) = (pop_comes queue (Ok given)).at s
stepped_comes queue (Throws f s) = (pop_comes queue (Err f)).at s
stepped_comes queue (Spent s) = comes_ended (Spent s)

-- the state after a queue was pushed
abbrev opened : State → State
opened s = logged (QueueOpened (s.page.queues.pushed + 1)) (record s { page = with_queues pushed_queue s.page })

pub steps_comes : (steps : Step State Given) → Comes (steps_turn steps) (reacting model steps)
unfolding steps_turn
steps_comes steps = record { at = λ s. stepped_comes (s.page.queues.pushed + 1) (steps (opened s)) }

-- deeds

create_named_comes : (name : List ℕ) (is : Option (List ℕ)) (document : ℕ)
    → Comes (create_named_turn name is document) (λ s. a_node (create_named model name is document s))
create_named_comes name is document = comes_then _ _ _ (λ _. create_comes (str_to_ascii_lowercase name) is document)

stepping_comes : (queue : ℕ) (name : List ℕ) (is : Option (List ℕ)) (document : ℕ)
    → Comes (below (Stepping queue) (create_named_turn name is document))
    (λ s. finally_in (a_node (create_named model name is document s)) (drain_popped model queue))
unfolding after
stepping_comes queue name is document = comes_below (Stepping queue) (create_named_comes name is document) (λ s. refl)

pub deed_comes : (deed : Deed) → Comes (deed_turn deed) (perform_deed model deed)
unfolding deed_turn
deed_comes (Create local is document) = record { at = λ s. (stepping_comes (s.page.queues.pushed + 1) local is document).at (opened s) }
deed_comes (New class) = construct_comes class
deed_comes deed = comes_if (is_reacting deed) (λ o. o) (steps_comes (steps no_calls deed)) (comes_down (steps no_calls deed))

-- operations

-- no variable
kept_none : (o : Outcome State Given) → o ≡ then_do o (λ given. kept None (λ s. Goes given s))
kept_none (Goes given s) = refl
kept_none (Throws f s) = refl
kept_none (Spent s) = refl

pub named_comes : {turn : Turn} {step : Step State Given} (var : Option (List ℕ)) → Comes turn step → Comes (named_turn var turn) (kept var step)
unfolding after
named_comes {turn} {step} None h = record { at = λ s. h.at s ∙ kept_none (step s) }
named_comes (Some var) h = comes_below (Naming var) h (λ s. refl)

pub operate_comes : (this : Option ℕ) (op : Op) → Comes (operate_turn this op) (operate model this op)
unfolding operate_turn
operate_comes this op = comes_bind _ _ (λ deed. named_comes (variable op) (deed_comes deed))

pub user_comes : (c : Cmd) → Comes (user_turn c) (act_as_user model c)
unfolding user_turn
user_comes c = comes_bind (look None (λ v. resolve_user v c)) (perform_deed model) deed_comes
