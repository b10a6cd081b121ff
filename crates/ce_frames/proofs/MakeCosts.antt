-- What is left to do after turns of constructions, of operations and of bodies.
use Rattle.std.proofs.Common.{ℕ, ◌+◌, Bool, true, false, List, [], ◌∷◌, length, Option, Some, None, arith}
use Rattle.std.specs.Prelude.{Result}
use Rattle.std.specs.Str.{str_to_ascii_lowercase}
use Rattle.ce_base.specs.declared.custom_state.CustomState.TheVariants.{Undefined}
use Rattle.ce_base.specs.declared.fault.Fault.{Fault}
use Rattle.rule_tokens.specs.declared.callback.CallName.TheVariants.{Constructor}
use Rattle.rule_lines.specs.declared.op.Op.{Op}
use Rattle.rule_lines.specs.Acts.{Act, Both, Log, Super, Return, Throw, Bump, Keep, Try, If}
use Rattle.reaction_queue.specs.Queues.{popped_queue, current_elements}
use Rattle.ce_registry.specs.ClassFacts.{has_call}
use Rattle.ce_registry.specs.Registry.{is_autonomous}
use Rattle.ce_algorithms.specs.declared.deed.Deed.{Deed}
use Rattle.ce_algorithms.specs.declared.deed.Deed.TheVariants as deeds
use Rattle.ce_algorithms.specs.declared.deed.Deed.TheVariants.{OnPage, OnControls, OnInternals, OnForms, Submits}
use Rattle.ce_events.specs.declared.event.Event.TheVariants.{Caught, Construct, UpgradeBegun, DrainBegun}
use Rattle.ce_algorithms.specs.declared.given.Given.{Given}
use Rattle.ce_algorithms.specs.declared.given.Given.TheVariants.{Nothing, Node}
use Rattle.ce_algorithms.specs.Steps.{Step}
use Rattle.ce_algorithms.specs.Page.{with_queues, definition_at, state_of}
use Rattle.ce_algorithms.specs.Enqueue.{lookup_in}
use Rattle.ce_algorithms.specs.CreateLater.{first_state}
use Rattle.ce_algorithms.specs.State.{State, Class, class_of, logged}
use Rattle.ce_algorithms.specs.Values.{Args, no_args, text_of, fixed}
use Rattle.ce_algorithms.specs.Deeds.{resolve, is_reacting_on_forms, is_reacting_on_page, variable}
use Rattle.ce_algorithms.specs.Body.{Flow, Next, Ended, actions_of, act, holds}
use Rattle.ce_algorithms.specs.Upgrade.{is_upgradable}
use Rattle.ce_algorithms.specs.Perform.{gives_nothing, gives_node, steps}
use Rattle.ce_algorithms.proofs.PageSteps.{keeps_base_call, keeps_begin_upgrade, keeps_make_in_state, keeps_control_steps, keeps_internals_steps}
use Rattle.ce_algorithms.proofs.PageSteps.{keeps_form_steps, keeps_page_steps}
use Rattle.ce_frames.specs.Frames.{Naming, Stepping, Draining, CreatingFit, CreatingExtended, Upgrading, Constructing, InBody}
use Rattle.ce_frames.specs.Handing.{given_of}
use Rattle.ce_frames.specs.After.{guard}
use Rattle.ce_frames.specs.Work.{weight}
use Rattle.ce_frames.specs.Turned.{Turn, turn_after, no_calls}
use Rattle.ce_frames.specs.ConstructTurns.{begin_body, constructor_turn, construct_turn, construct_for_turn, upgrade_now_turn, upgrade_turn}
use Rattle.ce_frames.specs.ConstructTurns.{create_extended_turn, create_found_turn, create_turn}
use Rattle.ce_frames.specs.OperateTurns.{next_turn, pop_turn, steps_turn, create_named_turn, deed_turn, named_turn, operate_turn}
use Rattle.ce_frames.specs.BodyTurns.{guarded_step, flow_turn, act_turn, body_turn}
use Rattle.ce_frames.proofs.Falls.{Sinks, sinks, Falls, falls_steps, falls_bind, falls_seq, falls_give, falls_read, falls_read_page, falls_log, falls_page}
use Rattle.ce_frames.proofs.Falls.{falls_set_variable, falls_throw_if, falls_throw_where, falls_settle, falls_look, falls_attempt, falls_state, falls_catch}
use Rattle.ce_frames.proofs.Falls.{logged_potential}
use Rattle.ce_frames.proofs.StepFalls.{falls_returned, falls_define_element, falls_submit_steps}
use Rattle.ce_frames.proofs.Costs.{Costs, costs_more, costs_down, costs_go_on, costs_below, costs_bind, costs_seq, costs_if, costs_when, costs_spend}
use Rattle.ce_frames.proofs.Costs.{popped_potential, falls_open_queue}

-- constructions

pub begin_costs : (class : ℕ) (args : Args) (this : Option ℕ) (actions : List Act) → Costs 1 (begin_body class args this actions)
begin_costs class args this actions = costs_below 0 (InBody class args this false actions) costs_go_on

pub falls_gives_node : {f : Step State ℕ} → Falls f → Falls (gives_node f)
falls_gives_node h = falls_bind h (λ n. falls_give (Node n))

constructor_costs : (class : ℕ) (k : Class) → Costs 2 (constructor_turn class k)
constructor_costs class k =
    costs_if 2 (has_call Constructor k.facts.calls) (costs_below 1 Constructing (begin_costs class no_args None (actions_of Constructor k.bodies)))
    (costs_more 0 2 (omega arith) (costs_down (falls_gives_node (falls_page (keeps_base_call Sinks sinks class)))))

construct_costs : (class : ℕ) → Costs 2 (construct_turn class)
unfolding construct_turn
construct_costs class = costs_bind 2 (falls_read (λ s. class_of s class)) (λ k. costs_seq 2 (falls_log (Construct k.name)) (constructor_costs class k))

construct_for_costs : (n d : ℕ) → Costs 2 (construct_for_turn n d)
construct_for_costs n d =
    costs_seq 2 (falls_throw_where _ _) (costs_seq 2 (falls_state n _) (costs_bind 2 (falls_read_page (λ p. (definition_at p d).class)) construct_costs))

upgrade_now_costs : (n d : ℕ) → Costs 3 (upgrade_now_turn n d)
upgrade_now_costs n d =
    costs_seq 3 (falls_log (UpgradeBegun n))
    (costs_seq 3 (falls_page (keeps_begin_upgrade Sinks sinks n d)) (costs_below 2 (Upgrading n d) (construct_for_costs n d)))

pub upgrade_costs : (n d : ℕ) → Costs 3 (upgrade_turn n d)
unfolding upgrade_turn
upgrade_costs n d = costs_bind 3 (falls_read_page (λ p. state_of p n)) (λ state. costs_when 3 (is_upgradable state) (upgrade_now_costs n d))

create_extended_costs : (local : List ℕ) (is : Option (List ℕ)) (document d : ℕ) → Costs 4 (create_extended_turn local is document d)
create_extended_costs local is document d =
    costs_bind 4 (falls_page (keeps_make_in_state Sinks sinks local is document Undefined)) (λ n. costs_below 3 (CreatingExtended n) (upgrade_costs n d))

create_found_costs : (local : List ℕ) (is : Option (List ℕ)) (document : ℕ) (d : Option ℕ) → Costs 4 (create_found_turn local is document d)
create_found_costs local is document None =
    costs_more 0 4 (omega arith) (costs_down (falls_gives_node (falls_page (keeps_make_in_state Sinks sinks local is document (first_state local is)))))
create_found_costs local is document (Some d) =
    costs_bind 4 (falls_read_page (λ p. definition_at p d))
    (λ x. costs_if 4 (is_autonomous x) (costs_more 3 4 (omega arith) (costs_below 2 (CreatingFit local document) (construct_costs x.class)))
    (create_extended_costs local is document d))

create_costs : (local : List ℕ) (is : Option (List ℕ)) (document : ℕ) → Costs 4 (create_turn local is document)
unfolding create_turn
create_costs local is document = costs_bind 4 (falls_read_page (λ p. lookup_in p document local is)) (create_found_costs local is document)

-- operations

pub close_costs : (queue : ℕ) (kept : Result Given Fault) → Costs 0 (next_turn queue [] kept)
close_costs queue kept = costs_seq 0 (falls_log _) (costs_down (falls_settle kept))

pub next_costs : (queue : ℕ) (elements : List ℕ) (kept : Result Given Fault) → Costs (length elements + 1) (next_turn queue elements kept)
next_costs queue [] kept = costs_more 0 1 (omega arith) (close_costs queue kept)
next_costs queue (n ∷ ns) kept =
    costs_more (0 + weight (Draining queue (n ∷ ns) kept)) (length (n ∷ ns) + 1) (omega arith) (costs_below 0 (Draining queue (n ∷ ns) kept) costs_go_on)

pub pop_costs : (queue : ℕ) (kept : Result Given Fault) → Costs 1 (pop_turn queue kept)
pop_costs queue kept = record {
  at = λ s.
      let t : State = record s { page = with_queues popped_queue s.page } in
      let a = (next_costs queue (current_elements s.page.queues) kept).at (logged (DrainBegun queue) t) in
      let b = logged_potential (DrainBegun queue) t in
      let c = popped_potential s in
      omega (arith, a, b, c);
}

steps_costs : {steps : Step State Given} → Falls steps → Costs 1 (steps_turn steps)
unfolding steps_turn
steps_costs h = costs_bind 1 falls_open_queue (λ queue. costs_bind 1 (falls_attempt h) (pop_costs queue))

create_named_costs : (name : List ℕ) (is : Option (List ℕ)) (document : ℕ) → Costs 4 (create_named_turn name is document)
create_named_costs name is document = costs_seq 4 (falls_throw_if _ _) (create_costs (str_to_ascii_lowercase name) is document)

pub falls_gives_nothing : {f : Step State (Unit {0})} → Falls f → Falls (gives_nothing f)
falls_gives_nothing h = falls_seq h (falls_give Nothing)

deed_costs : (deed : Deed) → Costs 6 (deed_turn deed)
unfolding deed_turn
deed_costs (deeds.Create local is document) = costs_bind 6 falls_open_queue (λ queue. costs_below 4 (Stepping queue) (create_named_costs local is document))
deed_costs (deeds.New class) = costs_more 2 6 (omega arith) (construct_costs class)
deed_costs (deeds.Define name class base) = costs_more 1 6 (omega arith) (steps_costs (falls_gives_nothing (falls_define_element name class base)))
deed_costs (OnPage what) =
    let h : Falls (steps no_calls (OnPage what)) = falls_page (keeps_page_steps Sinks sinks what) in
    costs_if 6 (is_reacting_on_page what) (costs_more 1 6 (omega arith) (steps_costs h)) (costs_more 0 6 (omega arith) (costs_down h))
deed_costs (OnControls what) = costs_more 0 6 (omega arith) (costs_down (falls_page (keeps_control_steps Sinks sinks what)))
deed_costs (OnInternals what) = costs_more 0 6 (omega arith) (costs_down (falls_page (keeps_internals_steps Sinks sinks what)))
deed_costs (OnForms what) =
    let h : Falls (steps no_calls (OnForms what)) = falls_page (keeps_form_steps Sinks sinks what) in
    costs_if 6 (is_reacting_on_forms what) (costs_more 1 6 (omega arith) (steps_costs h)) (costs_more 0 6 (omega arith) (costs_down h))
deed_costs (Submits what) = costs_more 0 6 (omega arith) (costs_down (falls_submit_steps what))
deed_costs (deeds.Ask word n name) = costs_more 0 6 (omega arith) (costs_down (falls_read _))
deed_costs (deeds.Let var n) = costs_more 0 6 (omega arith) (costs_down (falls_gives_nothing (falls_set_variable var n)))

pub named_costs : {turn : Turn} (most : ℕ) (var : Option (List ℕ)) → Costs most turn → Costs (most + 1) (named_turn var turn)
named_costs most None h = costs_more most (most + 1) (omega arith) h
named_costs most (Some var) h = costs_below most (Naming var) h

pub operate_costs : (this : Option ℕ) (op : Op) → Costs 7 (operate_turn this op)
unfolding operate_turn
operate_costs this op = costs_bind 7 (falls_look this (λ v. resolve v op)) (λ deed. named_costs 6 (variable op) (deed_costs deed))

-- bodies

falls_guarded : {f : Step State Flow} (guarded : Bool) (this : Option ℕ) → Falls f → Falls (guarded_step guarded this f)
falls_guarded {f} true this h =
    record { at = λ s. let a = falls_catch (f s) (λ x. falls_seq (falls_log (Caught x)) (falls_give (Next this))) in let b = h.at s in omega (arith, a, b) }
falls_guarded false this h = h

module _ (class : ℕ) (args : Args) (actions : List Act) (rest : Option ℕ → Turn) (rests : (this : Option ℕ) → Costs 0 (rest this)) where
  flow_costs : (flow : Flow) → Costs 0 (flow_turn rest flow)
  flow_costs (Next this) = rests this
  flow_costs (Ended result) = costs_down (falls_give (given_of result))

  -- an action that is no operation
  step_costs : {f : Step State Flow} (this : Option ℕ) (guarded : Bool) → Falls f → Costs 8 (λ s. turn_after (guard guarded this (f s)) (flow_turn rest))
  step_costs this guarded h = costs_more 0 8 (omega arith) (costs_bind 0 (falls_guarded guarded this h) flow_costs)

  act_costs : (this : Option ℕ) (guarded : Bool) (a : Act) → Costs 8 (act_turn class args this guarded actions rest a)
  unfolding act_turn
  act_costs this guarded (Both op) =
      costs_bind 8 (falls_read (λ s. (class_of s class).memory))
      (λ memory. costs_below 7 (InBody class args this guarded actions) (operate_costs this (fixed memory args op)))
  act_costs this guarded (Try a) = costs_more 0 8 (omega arith) (costs_spend (costs_more 8 25 (omega arith) (act_costs this true a)))
  act_costs this guarded (If equal left right a) =
      let inner = costs_more 0 8 (omega arith) (costs_spend (costs_more 8 25 (omega arith) (act_costs this guarded a))) in
      costs_bind 8 (falls_read (λ s. (class_of s class).memory))
      (λ memory. costs_if 8 (holds equal (text_of memory args left) (text_of memory args right)) inner (costs_more 0 8 (omega arith) (rests this)))
  act_costs this guarded (Log vals) = let h : Falls (act no_calls class args this (Log vals)) = search (falls_steps) depth 12 in step_costs this guarded h
  act_costs this guarded Super =
      let h : Falls (act no_calls class args this Super) = search (falls_steps, keeps_base_call Sinks sinks) depth 12 in step_costs this guarded h
  act_costs this guarded (Return operand) = step_costs this guarded (falls_returned this operand)
  act_costs this guarded (Throw val) = let h : Falls (act no_calls class args this (Throw val)) = search (falls_steps) depth 12 in step_costs this guarded h
  act_costs this guarded Bump = let h : Falls (act no_calls class args this Bump) = search (falls_steps) depth 12 in step_costs this guarded h
  act_costs this guarded (Keep val) = let h : Falls (act no_calls class args this (Keep val)) = search (falls_steps) depth 12 in step_costs this guarded h

pub body_costs : (class : ℕ) (args : Args) (this : Option ℕ) (actions : List Act) → Costs 0 (body_turn class args this actions)
unfolding body_turn
body_costs class args this [] = costs_down (falls_give (given_of this))
body_costs class args this (a ∷ actions) =
    costs_spend
    (costs_more 8 25 (omega arith)
    (act_costs class args actions (λ next. body_turn class args next actions) (λ next. body_costs class args next actions) this false a))
