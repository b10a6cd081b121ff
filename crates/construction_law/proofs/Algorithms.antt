-- No algorithm changes how deep a construction stack is, where what it calls again changes none; and so the model changes none.
use Rattle.std.proofs.Common.{ℕ, zero, suc, List, [], ◌∷◌, Option, Some, None, refl}
use Rattle.ce_base.specs.declared.fault.Fault.{Fault}
use Rattle.rule_tokens.specs.declared.operand.Operand.{Operand}
use Rattle.rule_lines.specs.Acts.{Act, Both, Super, Return, Try, If}
use Rattle.rule_lines.specs.declared.line.Cmd.{Cmd}
use Rattle.rule_lines.specs.declared.line.Cmd.TheVariants.{Both as BothCommand, Doc}
use Rattle.rule_lines.specs.declared.op.Op.{Op}
use Rattle.reaction_queue.specs.declared.reaction.Reaction.{Reaction}
use Rattle.reaction_queue.specs.declared.reaction.Reaction.TheVariants.{Upgrade as UpgradeReaction}
use Rattle.reaction_queue.specs.Queues.{Queues, waiting_at, with_waiting}
use Rattle.ce_registry.specs.declared.definition.Definition.{Definition}
use Rattle.construction.specs.Stacks.{popped}
use Rattle.ce_algorithms.specs.declared.deed.Deed.{Deed}
use Rattle.ce_algorithms.specs.declared.deed.Deed.TheVariants as deeds
use Rattle.ce_algorithms.specs.declared.deed.Deed.TheVariants.{OnPage, OnControls, OnInternals, OnForms, Submits}
use Rattle.ce_algorithms.specs.declared.deed.SubmitDeed.{SubmitDeed}
use Rattle.ce_algorithms.specs.declared.deed.SubmitDeed.TheVariants as submit_deeds
use Rattle.ce_events.specs.Calls.{call_event}
use Rattle.ce_events.specs.declared.event.Event.{Event}
use Rattle.ce_events.specs.declared.event.Event.TheVariants.{UpgradeBegun}
use Rattle.ce_algorithms.specs.declared.given.Given.{Given}
use Rattle.ce_algorithms.specs.declared.given.Given.TheVariants.{Node, Answers}
use Rattle.ce_algorithms.specs.Steps.{Step, Outcome, Goes, Throws, Spent, then_do, ◌>>◌, catch, catch_in, finally, finally_in}
use Rattle.ce_algorithms.specs.Page.{Work, with_queues}
use Rattle.ce_algorithms.specs.Construction.{with_stacks, pop_construction}
use Rattle.ce_algorithms.specs.State.{State, Class, change_page, class_of, log_any, logged, on_page, with_outcome, with_work, work_of}
use Rattle.ce_algorithms.specs.Calls.{Call, Operate, DrainRest, DrainBackup, Again}
use Rattle.ce_algorithms.specs.Values.{Args, text_of}
use Rattle.ce_algorithms.specs.Body.{Flow, Next, Ended, on_flow, told, returned, holds, act, body}
use Rattle.ce_algorithms.specs.Construct.{constructor_body, construct}
use Rattle.ce_algorithms.specs.Upgrade.{begin_upgrade, construct_for, upgrade_threw, upgrade_ends, upgrade_now, upgrade}
use Rattle.ce_algorithms.specs.Drain.{log_call, call_defined, run_reaction, react, drain, drain_popped, drain_first, drain_backup, checkpoint}
use Rattle.ce_algorithms.specs.Create.{create_found, create}
use Rattle.ce_algorithms.specs.Submission.{activate_in, submit_steps}
use Rattle.ce_algorithms.specs.Perform.{steps, perform_deed, keep, kept, operate, act_as_user}
use Rattle.ce_algorithms.specs.Deeds.{resolve, resolve_user, variable}
use Rattle.ce_algorithms.specs.Session.{perform, command}
use Rattle.ce_algorithms.specs.Model.{clock, level, run, model}
use Rattle.construction_law.proofs.StackDepths.{one_more, pop_takes_back}
use Rattle.construction_law.proofs.Steps.{Stays, Leaves, of_session, leaves_steps, leaves_goes, leaves_give, leaves_done, leaves_read, leaves_bind, leaves_seq}
use Rattle.construction_law.proofs.Steps.{leaves_list, leaves_if, leaves_catch, leaves_on_page, leaves_look, leaves_spend}
use Rattle.construction_law.proofs.Primitives.{leaves_document, leaves_tell_form, leaves_define_name, leaves_make_in_state, leaves_control_steps}
use Rattle.construction_law.proofs.Primitives.{leaves_ignored_or, leaves_internals_steps, leaves_reset_form, leaves_form_steps, leaves_page_steps}
use Rattle.construction_law.proofs.Primitives.{leaves_base_call, Deepens, begin_deepens}

-- what calls nothing again

leaves_told : (given : Given) → Leaves of_session (told given)
leaves_told (Answers a) = search leaves_steps depth 6
leaves_told given = leaves_done

leaves_returned : (this : Option ℕ) (operand : Option Operand) → Leaves of_session (returned this operand)
leaves_returned this None = search leaves_steps depth 6
leaves_returned this (Some operand) = search leaves_steps depth 8

leaves_log_any : (line : Option Event) → Leaves of_session (log_any line)
leaves_log_any None = leaves_done
leaves_log_any (Some e) = search leaves_steps depth 6

leaves_log_call : (n : ℕ) (r : Reaction) → Leaves of_session (log_call n r)
leaves_log_call n r = leaves_log_any (call_event r n)

leaves_upgrade_threw : (n : ℕ) (f : Fault) → Leaves of_session (upgrade_threw n f)
leaves_upgrade_threw n f = search leaves_steps depth 14

leaves_upgrade_ends : (n : ℕ) → Leaves of_session (upgrade_ends n)
leaves_upgrade_ends n = search (leaves_steps, leaves_tell_form) depth 12

leaves_keep : (var : Option (List ℕ)) (given : Given) → Leaves of_session (keep var given)
leaves_keep (Some var) (Node n) = search leaves_steps depth 6
leaves_keep var given = leaves_done

leaves_kept : {f : Step State Given} (var : Option (List ℕ)) → Leaves of_session f → Leaves of_session (kept var f)
leaves_kept var h = leaves_bind h (λ given. leaves_seq (leaves_keep var given) (leaves_give _))

leaves_queues : (changed : Queues → Queues) → Leaves of_session (change_page (with_queues changed))
leaves_queues changed = leaves_goes _ _ (λ s. refl)

-- what submits a form

leaves_activate_in : (button : ℕ) (owner : Option ℕ) → Leaves of_session (activate_in button owner)
leaves_activate_in button None = leaves_done
leaves_activate_in button (Some form) = search (leaves_steps, leaves_reset_form) depth 12

leaves_submit_steps : (what : SubmitDeed) → Leaves of_session (submit_steps what)
leaves_submit_steps (submit_deeds.Submit form) = search leaves_steps depth 12
leaves_submit_steps (submit_deeds.Request form submitter) = search leaves_steps depth 12
leaves_submit_steps (submit_deeds.Press button) = search (leaves_steps, leaves_ignored_or, leaves_activate_in) depth 12

module _ (again : Again) (below : (call : Call) → Leaves of_session (again call)) where
  -- bodies

  act_leaves : (class : ℕ) (args : Args) (this : Option ℕ) (a : Act) → Leaves of_session (act again class args this a)
  act_leaves class args this (Return operand) = leaves_returned this operand
  act_leaves class args this (Try action) = leaves_catch (leaves_seq leaves_spend (act_leaves class args this action)) (λ f. leaves_goes _ _ (λ s. refl))
  act_leaves class args this (If equal left right action) =
      leaves_bind (leaves_read (λ s. (class_of s class).memory))
      (λ memory. leaves_if (holds equal (text_of memory args left) (text_of memory args right))
      (leaves_seq leaves_spend (act_leaves class args this action)) (leaves_give (Next this)))
  act_leaves class args this (Both op) = search (leaves_steps, below, leaves_told) depth 12
  act_leaves class args this Super = search (leaves_steps, leaves_base_call) depth 12
  act_leaves class args this action = search leaves_steps depth 12

  body_leaves : (class : ℕ) (args : Args) (this : Option ℕ) (actions : List Act) → Leaves of_session (body again class args this actions)
  body_leaves class args this [] = leaves_give _
  body_leaves class args this (action ∷ rest) =
      leaves_seq leaves_spend (leaves_bind (act_leaves class args this action) (go (λ next. body_leaves class args next rest)))
    where
      go : ((next : Option ℕ) → Leaves of_session (body again class args next rest)) → (flow : Flow)
          → Leaves of_session (on_flow (λ next. body again class args next rest) flow)
      go h (Next next) = h next
      go h (Ended result) = leaves_give _

  -- constructions

  constructor_leaves : (class : ℕ) (k : Class) → Leaves of_session (constructor_body again class k)
  constructor_leaves class k = search (leaves_steps, body_leaves, leaves_base_call) depth 14

  pub construct_leaves : (class : ℕ) → Leaves of_session (construct again class)
  construct_leaves class = search (leaves_steps, constructor_leaves) depth 12

  construct_for_leaves : (n d : ℕ) → Leaves of_session (construct_for again n d)
  construct_for_leaves n d = search (leaves_steps, construct_leaves) depth 14

  -- an upgrade: the begin makes the definition's stack one entry deeper, the construction leaves it so, and the pop takes that
  -- back in each case

  upgrade_now_leaves : (n d : ℕ) → Leaves of_session (upgrade_now again n d)
  upgrade_now_leaves n d = record { at = λ depths s h. begun depths s (begin_upgrade n d (work_of s)) (begin_deepens n d depths (work_of s) h) }
    where
      pop : State → State
      pop s = with_work (record { page = with_stacks (popped d) s.page; fuel = s.fuel }) s

      constructed : (depths : ℕ → ℕ) (o : Outcome State (Unit {0})) → Stays of_session (one_more d depths) o →
          Stays of_session depths (then_do (catch_in (finally_in o (on_page (pop_construction d))) (upgrade_threw n)) (λ _. upgrade_ends n))
      constructed depths (Goes a s) h = (leaves_upgrade_ends n).at depths (pop s) (pop_takes_back d depths (of_session s) h)
      constructed depths (Throws f s) h =
          let rest : Leaves of_session (upgrade_threw n f >> upgrade_ends n) = leaves_seq (leaves_upgrade_threw n f) (leaves_upgrade_ends n) in
          rest.at depths (pop s) (pop_takes_back d depths (of_session s) h)
      constructed depths (Spent s) h = h

      begun : (depths : ℕ → ℕ) (s : State) (o : Outcome Work (Unit {0})) → Deepens d depths o →
          Stays of_session depths (then_do (with_outcome o (logged (UpgradeBegun n) s))
          (λ _. catch (finally (construct_for again n d) (on_page (pop_construction d))) (upgrade_threw n) >> upgrade_ends n))
      begun depths s (Goes a w) h =
          let t = with_work w (logged (UpgradeBegun n) s) in
          constructed depths (construct_for again n d t) ((construct_for_leaves n d).at (one_more d depths) t h)
      begun depths s (Throws f w) h = h
      begun depths s (Spent w) h = h

  pub upgrade_leaves : (n d : ℕ) → Leaves of_session (upgrade again n d)
  upgrade_leaves n d = search (leaves_steps, upgrade_now_leaves) depth 12

  -- reactions and drains

  call_defined_leaves : (n : ℕ) (r : Reaction) (d : Option Definition) → Leaves of_session (call_defined again n r d)
  call_defined_leaves n r None = leaves_done
  call_defined_leaves n r (Some d) = search (leaves_steps, leaves_log_call, body_leaves) depth 14

  run_reaction_leaves : (n : ℕ) (r : Reaction) → Leaves of_session (run_reaction again n r)
  run_reaction_leaves n (UpgradeReaction d) = upgrade_leaves n d
  run_reaction_leaves n r = search (leaves_steps, call_defined_leaves) depth 12

  react_leaves : (n : ℕ) (w : ℕ × Reaction) → Leaves of_session (react again n w)
  react_leaves n w = search (leaves_steps, run_reaction_leaves) depth 12

  drain_leaves : (ns : List ℕ) → Leaves of_session (drain again ns)
  drain_leaves [] = leaves_done
  drain_leaves (n ∷ ns) =
      leaves_bind (leaves_read (λ s. waiting_at s.page.queues n)) (λ waiting. leaves_list waiting _ _ (drain_leaves ns)
      (λ w ws. leaves_seq (leaves_queues (with_waiting n ws)) (leaves_seq (react_leaves n w) (leaves_seq (below (DrainRest (n ∷ ns))) leaves_done))))

  drain_popped_leaves : (number : ℕ) → Leaves of_session (drain_popped again number)
  drain_popped_leaves number = search (leaves_steps, drain_leaves) depth 14

  drain_first_leaves : (elements : List ℕ) → Leaves of_session (drain_first again elements)
  drain_first_leaves [] = leaves_done
  drain_first_leaves (n ∷ ns) = search (leaves_steps, drain_leaves, below) depth 12

  drain_backup_leaves : Leaves of_session (drain_backup again)
  drain_backup_leaves = search (leaves_steps, drain_first_leaves) depth 12

  checkpoint_leaves : Leaves of_session (checkpoint again)
  checkpoint_leaves = search (leaves_steps, drain_backup_leaves) depth 16

  -- creations

  create_found_leaves : (local : List ℕ) (is : Option (List ℕ)) (document : ℕ) (d : Option ℕ) → Leaves of_session (create_found again local is document d)
  create_found_leaves local is document None = leaves_on_page (leaves_make_in_state local is document _)
  create_found_leaves local is document (Some d) = search (leaves_steps, construct_leaves, upgrade_leaves, leaves_make_in_state) depth 18

  pub create_leaves : (local : List ℕ) (is : Option (List ℕ)) (document : ℕ) → Leaves of_session (create again local is document)
  create_leaves local is document = search (leaves_steps, create_found_leaves) depth 12

  -- operations

  steps_leave : (deed : Deed) → Leaves of_session (steps again deed)
  steps_leave (OnPage what) = leaves_on_page (leaves_page_steps what)
  steps_leave (OnControls what) = leaves_on_page (leaves_control_steps what)
  steps_leave (OnInternals what) = leaves_on_page (leaves_internals_steps what)
  steps_leave (OnForms what) = leaves_on_page (leaves_form_steps what)
  steps_leave (Submits what) = leaves_submit_steps what
  steps_leave (deeds.Create local is document) = search (leaves_steps, create_leaves) depth 14
  steps_leave (deeds.New class) = search (leaves_steps, construct_leaves) depth 12
  steps_leave (deeds.Define name class base) = search (leaves_steps, leaves_define_name) depth 14
  steps_leave deed = search leaves_steps depth 6

  perform_deed_leaves : (deed : Deed) → Leaves of_session (perform_deed again deed)
  perform_deed_leaves deed = search (leaves_steps, steps_leave, drain_popped_leaves) depth 16

  pub operate_leaves : (this : Option ℕ) (op : Op) → Leaves of_session (operate again this op)
  operate_leaves this op = leaves_bind (leaves_look this (λ v. resolve v op)) (λ deed. leaves_kept (variable op) (perform_deed_leaves deed))

  act_as_user_leaves : (c : Cmd) → Leaves of_session (act_as_user again c)
  act_as_user_leaves c = leaves_bind (leaves_look None (λ v. resolve_user v c)) (λ deed. perform_deed_leaves deed)

  -- commands

  perform_leaves : (c : Cmd) → Leaves of_session (perform again c)
  perform_leaves (BothCommand op) = operate_leaves None op
  perform_leaves (Doc var) = leaves_kept (Some var) (leaves_on_page leaves_document)
  perform_leaves c = act_as_user_leaves c

  pub command_leaves : (line : ℕ) (c : Cmd) → Leaves of_session (command again line c)
  command_leaves line c = search (leaves_steps, perform_leaves, checkpoint_leaves) depth 12

  -- a level
  level_leaves : (call : Call) → Leaves of_session (level again call)
  level_leaves (Operate this op) = operate_leaves this op
  level_leaves (DrainRest ns) = leaves_seq (drain_leaves ns) (leaves_give _)
  level_leaves DrainBackup = leaves_seq drain_backup_leaves (leaves_give _)

-- any number of levels
run_leaves : (count : ℕ) (call : Call) → Leaves of_session (run count call)
run_leaves zero call = record { at = λ depths s h. tt }
run_leaves (suc count) call = level_leaves (run count) (run_leaves count) call

-- the model
pub model_leaves : (call : Call) → Leaves of_session (model call)
unfolding model
model_leaves call = record { at = λ depths s. (run_leaves (suc (clock s)) call).at depths s }
