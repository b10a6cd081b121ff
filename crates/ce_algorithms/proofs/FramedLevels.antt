-- No algorithm reads the log, where what it calls again reads none.
use Rattle.std.proofs.Common.{ℕ, List, [], ◌∷◌, Option, Some, None, refl}
use Rattle.ce_base.specs.declared.fault.Fault.{Fault}
use Rattle.rule_tokens.specs.declared.callback.CallName.TheVariants.{Constructor}
use Rattle.rule_tokens.specs.declared.operand.Operand.{Operand}
use Rattle.rule_lines.specs.Acts.{Act, Both, Log, Super, Return, Throw, Bump, Keep, Try, If}
use Rattle.rule_lines.specs.declared.line.Cmd.{Cmd}
use Rattle.rule_lines.specs.declared.op.Op.{Op}
use Rattle.reaction_queue.specs.declared.reaction.Reaction.{Reaction}
use Rattle.reaction_queue.specs.declared.reaction.Reaction.TheVariants.{Upgrade as UpgradeReaction}
use Rattle.reaction_queue.specs.Queues.{waiting_at, with_waiting}
use Rattle.ce_registry.specs.ClassFacts.{has_call}
use Rattle.ce_registry.specs.declared.definition.Definition.{Definition}
use Rattle.ce_registry.specs.Registry.{is_autonomous}
use Rattle.ce_events.specs.Calls.{call_event}
use Rattle.ce_events.specs.declared.event.Event.{Event}
use Rattle.ce_algorithms.specs.declared.deed.Deed.{Deed}
use Rattle.ce_algorithms.specs.declared.deed.Deed.TheVariants as deeds
use Rattle.ce_algorithms.specs.declared.deed.Deed.TheVariants.{OnPage, OnControls, OnInternals, OnForms, Submits}
use Rattle.ce_algorithms.specs.declared.given.Given.{Given}
use Rattle.ce_algorithms.specs.declared.given.Given.TheVariants.{Nothing, Node, Answers, Ignored}
use Rattle.ce_algorithms.specs.Steps.{Step}
use Rattle.ce_algorithms.specs.Page.{with_queues}
use Rattle.ce_algorithms.specs.CreateLater.{make_undefined}
use Rattle.ce_algorithms.specs.State.{State, Class, log_any, class_of}
use Rattle.ce_algorithms.specs.Calls.{Call, Operate, DrainRest, DrainBackup, Again}
use Rattle.ce_algorithms.specs.Values.{Args, no_args, text_of}
use Rattle.ce_algorithms.specs.Body.{Flow, Next, Ended, on_flow, told, returned, caught, holds, act, body, actions_of}
use Rattle.ce_algorithms.specs.Construct.{base_alone, constructor_body, construct}
use Rattle.ce_algorithms.specs.Upgrade.{construct_for, drop_reactions, upgrade_threw, upgrade_now, upgrade}
use Rattle.ce_algorithms.specs.Drain.{log_call, call_back, call_defined, run_reaction, react, drain, open_queue, pop_queue, drain_popped, reacting, with_backup}
use Rattle.ce_algorithms.specs.Drain.{drain_first, drain_backup}
use Rattle.ce_algorithms.specs.Create.{construct_fit, create_failed, upgrade_failed, create_extended, create_defined, create_found, create}
use Rattle.ce_algorithms.specs.Controls.{control_steps}
use Rattle.ce_algorithms.specs.Perform.{create_named, define_element, gives_nothing, gives_node, page_steps, internals_steps, form_steps, steps, perform_deed}
use Rattle.ce_algorithms.specs.Perform.{keep, kept, operate, act_as_user}
use Rattle.ce_algorithms.specs.Deeds.{resolve, resolve_user, is_reacting, variable}
use Rattle.ce_algorithms.specs.Model.{level}
use Rattle.ce_algorithms.proofs.Framed.{Framed, framed_steps, framed_bind, framed_seq, framed_give, framed_done, framed_read, framed_read_page, framed_look}
use Rattle.ce_algorithms.proofs.Framed.{framed_change_page, framed_log, framed_on_page, framed_spend, framed_set_variable, framed_list, framed_if, framed_catch}
use Rattle.ce_algorithms.proofs.Framed.{framed_finally}
use Rattle.ce_algorithms.proofs.Submission.{framed_submit_steps}

-- what calls nothing again

pub framed_told : (given : Given) → Framed (told given)
framed_told Nothing = framed_done
framed_told (Node n) = framed_done
framed_told (Answers a) = framed_log _
framed_told Ignored = framed_done

pub framed_returned : (this : Option ℕ) (o : Option Operand) → Framed (returned this o)
framed_returned this None = framed_give _
framed_returned this (Some o) = search (framed_steps) depth 12

pub framed_caught : (this : Option ℕ) (x : Fault) → Framed (caught this x)
framed_caught this x = search (framed_steps) depth 12

pub framed_base_alone : (k : ℕ) → Framed (base_alone k)
framed_base_alone k = search (framed_steps) depth 12

pub framed_drop_reactions : (n : ℕ) → Framed (drop_reactions n)
framed_drop_reactions n = search (framed_steps) depth 12

pub framed_upgrade_threw : (n : ℕ) (x : Fault) → Framed (upgrade_threw n x)
framed_upgrade_threw n x = search (framed_steps, framed_drop_reactions) depth 12

framed_log_any : (line : Option Event) → Framed (log_any line)
framed_log_any None = framed_done
framed_log_any (Some e) = framed_log e

pub framed_log_call : (n : ℕ) (r : Reaction) → Framed (log_call n r)
framed_log_call n r = framed_log_any (call_event r n)

-- a queue is pushed
pub framed_open_queue : Framed open_queue
framed_open_queue = search (framed_steps) depth 12

-- a queue is popped
pub framed_pop_queue : Framed pop_queue
framed_pop_queue = search (framed_steps) depth 12

pub framed_create_failed : (local : List ℕ) (d : ℕ) (x : Fault) → Framed (create_failed local d x)
framed_create_failed local d x = search (framed_steps) depth 12

pub framed_upgrade_failed : (n : ℕ) (x : Fault) → Framed (upgrade_failed n x)
framed_upgrade_failed n x = search (framed_steps) depth 12

-- what gives nothing
pub framed_gives_nothing : {f : Step State (Unit {0})} → Framed f → Framed (gives_nothing f)
framed_gives_nothing h = framed_seq h (framed_give Nothing)

-- what gives a node
pub framed_gives_node : {f : Step State ℕ} → Framed f → Framed (gives_node f)
framed_gives_node h = framed_bind h (λ n. framed_give (Node n))

-- the variable
pub framed_keep : (var : Option (List ℕ)) (given : Given) → Framed (keep var given)
framed_keep None given = framed_done
framed_keep (Some var) Nothing = framed_done
framed_keep (Some var) (Node n) = framed_set_variable var n
framed_keep (Some var) (Answers a) = framed_done
framed_keep (Some var) Ignored = framed_done

-- what is given, and its variable
pub framed_kept : {f : Step State Given} (var : Option (List ℕ)) → Framed f → Framed (kept var f)
framed_kept var h = framed_bind h (λ given. framed_seq (framed_keep var given) (framed_give given))

-- a definition
pub framed_define_element : (name : List ℕ) (k : ℕ) (base : Option (List ℕ)) → Framed (define_element name k base)
framed_define_element name k base = search (framed_steps) depth 12

module _ (again : Again) (below : (call : Call) → Framed (again call)) where
  -- bodies

  pub act_framed : (k : ℕ) (args : Args) (this : Option ℕ) (a : Act) → Framed (act again k args this a)
  act_framed k args this (Both op) = search (framed_steps, below, framed_told) depth 12
  act_framed k args this (Log vals) = search (framed_steps) depth 12
  act_framed k args this Super = search (framed_steps) depth 12
  act_framed k args this (Return o) = framed_returned this o
  act_framed k args this (Throw val) = search (framed_steps) depth 12
  act_framed k args this Bump = search (framed_steps) depth 12
  act_framed k args this (Keep val) = search (framed_steps) depth 12
  act_framed k args this (Try a) = framed_catch (framed_seq framed_spend (act_framed k args this a)) (framed_caught this)
  act_framed k args this (If equal left right a) =
      framed_bind (framed_read (λ s. (class_of s k).memory) (λ events s. refl))
      (λ memory. framed_if (holds equal (text_of memory args left) (text_of memory args right)) (framed_seq framed_spend (act_framed k args this a))
      (framed_give (Next this)))

  pub body_framed : (k : ℕ) (args : Args) (this : Option ℕ) (actions : List Act) → Framed (body again k args this actions)
  body_framed k args this [] = framed_give this
  body_framed k args this (a ∷ rest) = framed_seq framed_spend (framed_bind (act_framed k args this a) (go (λ t. body_framed k args t rest)))
    where
      go : ((t : Option ℕ) → Framed (body again k args t rest)) → (flow : Flow) → Framed (on_flow (λ t. body again k args t rest) flow)
      go h (Next t) = h t
      go h (Ended r) = framed_give r

  -- construction and upgrade

  pub constructor_body_framed : (k : ℕ) (c : Class) → Framed (constructor_body again k c)
  constructor_body_framed k c = framed_if (has_call Constructor c.facts.calls) (body_framed k no_args None (actions_of Constructor c.bodies))
      (framed_base_alone k)

  pub construct_framed : (k : ℕ) → Framed (construct again k)
  construct_framed k = search (framed_steps, constructor_body_framed) depth 12

  pub construct_for_framed : (n d : ℕ) → Framed (construct_for again n d)
  construct_for_framed n d = search (framed_steps, construct_framed) depth 14

  pub upgrade_now_framed : (n d : ℕ) → Framed (upgrade_now again n d)
  upgrade_now_framed n d = search (framed_steps, construct_for_framed, framed_upgrade_threw) depth 16

  pub upgrade_framed : (n d : ℕ) → Framed (upgrade again n d)
  upgrade_framed n d = search (framed_steps, upgrade_now_framed) depth 12

  -- reactions

  pub call_back_framed : (n k : ℕ) (r : Reaction) → Framed (call_back again n k r)
  call_back_framed n k r = search (framed_steps, framed_log_call, body_framed) depth 14

  pub call_defined_framed : (n : ℕ) (r : Reaction) (d : Option Definition) → Framed (call_defined again n r d)
  call_defined_framed n r None = framed_done
  call_defined_framed n r (Some d) = call_back_framed n d.class r

  pub run_reaction_framed : (n : ℕ) (r : Reaction) → Framed (run_reaction again n r)
  run_reaction_framed n (UpgradeReaction d) = upgrade_framed n d
  run_reaction_framed n r = search (framed_steps, call_defined_framed) depth 12

  pub react_framed : (n : ℕ) (w : ℕ × Reaction) → Framed (react again n w)
  react_framed n w = search (framed_steps, run_reaction_framed) depth 12

  -- draining

  pub drain_framed : (ns : List ℕ) → Framed (drain again ns)
  drain_framed [] = framed_done
  drain_framed (n ∷ ns) = framed_bind (framed_read_page (λ p. waiting_at p.queues n))
      (λ waiting. framed_list waiting _ _ (drain_framed ns)
      (λ w ws. framed_seq (framed_change_page (with_queues (with_waiting n ws)))
      (framed_seq (react_framed n w) (framed_seq (below (DrainRest (n ∷ ns))) framed_done))))

  pub drain_popped_framed : (number : ℕ) → Framed (drain_popped again number)
  drain_popped_framed number = search (framed_steps, framed_pop_queue, drain_framed) depth 12

  pub reacting_framed : {A : Type 0} {steps : Step State A} → Framed steps → Framed (reacting again steps)
  reacting_framed h = framed_bind framed_open_queue (λ number. framed_finally h (drain_popped_framed number))

  drain_first_framed : (elements : List ℕ) → Framed (drain_first again elements)
  drain_first_framed [] = framed_done
  drain_first_framed (n ∷ ns) = framed_seq (framed_change_page (with_queues (with_backup ns)))
      (framed_seq (drain_framed (n ∷ [])) (framed_seq (below DrainBackup) framed_done))

  pub drain_backup_framed : Framed (drain_backup again)
  drain_backup_framed = framed_bind (framed_read_page (λ p. p.queues.backup)) drain_first_framed

  -- creation

  pub construct_fit_framed : (local : List ℕ) (d k : ℕ) → Framed (construct_fit again local d k)
  construct_fit_framed local d k = search (framed_steps, construct_framed) depth 14

  pub create_extended_framed : (local : List ℕ) (is : Option (List ℕ)) (d x : ℕ) → Framed (create_extended again local is d x)
  create_extended_framed local is d x = search (framed_steps, upgrade_framed, framed_upgrade_failed) depth 14

  pub create_defined_framed : (local : List ℕ) (is : Option (List ℕ)) (d n : ℕ) (x : Definition) → Framed (create_defined again local is d n x)
  create_defined_framed local is d n x =
      framed_if (is_autonomous x) (framed_catch (construct_fit_framed local d x.class) (framed_create_failed local d)) (create_extended_framed local is d n)

  pub create_found_framed : (local : List ℕ) (is : Option (List ℕ)) (d : ℕ) (o : Option ℕ) → Framed (create_found again local is d o)
  create_found_framed local is d None = framed_on_page (make_undefined local is d)
  create_found_framed local is d (Some x) = search (framed_steps, create_defined_framed) depth 12

  pub create_framed : (local : List ℕ) (is : Option (List ℕ)) (d : ℕ) → Framed (create again local is d)
  create_framed local is d = search (framed_steps, create_found_framed) depth 12

  pub create_named_framed : (name : List ℕ) (is : Option (List ℕ)) (d : ℕ) → Framed (create_named again name is d)
  create_named_framed name is d = search (framed_steps, create_framed) depth 12

  -- operations

  pub steps_framed : (deed : Deed) → Framed (steps again deed)
  steps_framed (deeds.Create local is document) = framed_gives_node (create_named_framed local is document)
  steps_framed (deeds.New class) = framed_gives_node (construct_framed class)
  steps_framed (deeds.Define name class base) = framed_gives_nothing (framed_define_element name class base)
  steps_framed (OnPage what) = framed_on_page (page_steps what)
  steps_framed (OnControls what) = framed_on_page (control_steps what)
  steps_framed (OnInternals what) = framed_on_page (internals_steps what)
  steps_framed (OnForms what) = framed_on_page (form_steps what)
  steps_framed (Submits what) = framed_submit_steps what
  steps_framed (deeds.Ask word n name) = framed_read _ (λ events s. refl)
  steps_framed (deeds.Let var n) = framed_gives_nothing (framed_set_variable var n)

  pub perform_deed_framed : (deed : Deed) → Framed (perform_deed again deed)
  perform_deed_framed deed = framed_if (is_reacting deed) (reacting_framed (steps_framed deed)) (steps_framed deed)

  pub operate_framed : (this : Option ℕ) (op : Op) → Framed (operate again this op)
  operate_framed this op = framed_bind (framed_look this (λ v. resolve v op)) (λ deed. framed_kept (variable op) (perform_deed_framed deed))

  pub act_as_user_framed : (c : Cmd) → Framed (act_as_user again c)
  act_as_user_framed c = framed_bind (framed_look None (λ v. resolve_user v c)) (λ deed. perform_deed_framed deed)

  -- a level
  pub level_framed : (call : Call) → Framed (level again call)
  level_framed (Operate this op) = operate_framed this op
  level_framed (DrainRest ns) = framed_seq (drain_framed ns) (framed_give Nothing)
  level_framed DrainBackup = framed_seq drain_backup_framed (framed_give Nothing)
