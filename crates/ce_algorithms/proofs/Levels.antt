-- Each algorithm calls the others again only at a lower clock.
use Rattle.std.proofs.Common.{◌≡◌, ℕ, suc, ◌+◌, ◌<◌, ◌≤◌, List, [], ◌∷◌, length, Option, Some, None, refl, ap, ◌∙◌, arith}
use Rattle.ce_base.specs.declared.fault.Fault.{Fault}
use Rattle.rule_tokens.specs.declared.callback.CallName.TheVariants.{Constructor}
use Rattle.rule_tokens.specs.declared.operand.Operand.{Operand}
use Rattle.rule_lines.specs.Acts.{Act, Both, Log, Super, Return, Throw, Bump, Keep, Try, If}
use Rattle.rule_lines.specs.declared.op.Op.{Op}
use Rattle.reaction_queue.specs.declared.reaction.Reaction.{Reaction}
use Rattle.reaction_queue.specs.declared.reaction.Reaction.TheVariants.{Upgrade as UpgradeReaction}
use Rattle.reaction_queue.specs.Queues.{waiting_at, with_waiting}
use Rattle.ce_registry.specs.ClassFacts.{has_call}
use Rattle.ce_registry.specs.declared.definition.Definition.{Definition}
use Rattle.ce_registry.specs.Registry.{is_autonomous}
use Rattle.ce_events.specs.Calls.{call_event}
use Rattle.ce_events.specs.declared.event.Event.{Event}
use Rattle.ce_algorithms.specs.declared.deed.Deed.{Deed}
use Rattle.ce_algorithms.specs.declared.deed.Deed.TheVariants as deeds
use Rattle.ce_algorithms.specs.declared.deed.Deed.TheVariants.{OnPage, OnControls, OnInternals, OnForms, Submits}
use Rattle.ce_algorithms.specs.declared.given.Given.{Given}
use Rattle.ce_algorithms.specs.declared.given.Given.TheVariants.{Nothing, Node, Answers, Ignored}
use Rattle.ce_algorithms.specs.Steps.{Step, ◌>>◌, done}
use Rattle.ce_algorithms.specs.Page.{with_queues}
use Rattle.ce_algorithms.specs.State.{State, Class, log_any, change_page, class_of, spend}
use Rattle.ce_algorithms.specs.Calls.{Call, Operate, DrainRest, DrainBackup, Again}
use Rattle.ce_algorithms.specs.Values.{Args, no_args, text_of}
use Rattle.ce_algorithms.specs.Body.{Flow, Next, Ended, on_flow, told, returned, caught, holds, act, body, actions_of}
use Rattle.ce_algorithms.specs.Construct.{base_alone, constructor_body, construct}
use Rattle.ce_algorithms.specs.Upgrade.{construct_for, drop_reactions, upgrade_threw, upgrade_now, upgrade}
use Rattle.ce_algorithms.specs.Drain.{log_call, call_back, call_defined, run_reaction, react, drain, open_queue, pop_queue, drain_popped, reacting, with_backup}
use Rattle.ce_algorithms.specs.Drain.{drain_taken, drain_first, drain_backup}
use Rattle.ce_algorithms.specs.Create.{construct_fit, create_failed, upgrade_failed, create_extended, create_defined, create_found, create}
use Rattle.ce_algorithms.specs.Perform.{create_named, define_element, gives_nothing, gives_node, steps, perform_deed, keep, kept, operate}
use Rattle.ce_algorithms.specs.Deeds.{resolve, is_reacting, variable}
use Rattle.ce_algorithms.specs.Model.{clock, level}
use Rattle.ce_algorithms.proofs.PageSteps.{keeps_make_in_state, keeps_base_call, keeps_pop_construction, keeps_begin_upgrade, keeps_tell_form}
use Rattle.ce_algorithms.proofs.PageSteps.{keeps_define_name, keeps_control_steps, keeps_internals_steps, keeps_form_steps, keeps_page_steps}
use Rattle.ce_algorithms.proofs.Low.{Lower, lower, with_waiting_load, light_state, light_definition, light_begun, light_ended, light_dropped}
use Rattle.ce_algorithms.proofs.Submission.{tied_submit_steps}
use Rattle.ce_algorithms.proofs.Tied.{Tied, Tame, tame_le, tied_steps, tied_bind, tied_seq, tied_down, tied_give, tied_done, tied_read, tied_log, tied_look}
use Rattle.ce_algorithms.proofs.Tied.{tied_set_variable, tied_page, tied_spend, tied_if, tied_catch, tied_finally}

-- what calls nothing again

tied_told : {b : ℕ} (given : Given) → Tied b (told given) (told given)
tied_told Nothing = tied_done
tied_told (Node n) = tied_done
tied_told (Answers a) = tied_log _
tied_told Ignored = tied_done

tied_returned : {b : ℕ} (this : Option ℕ) (o : Option Operand) → Tied b (returned this o) (returned this o)
tied_returned this None = tied_give _
tied_returned this (Some o) = search (tied_steps) depth 12

tied_caught : {b : ℕ} (this : Option ℕ) (x : Fault) → Tied b (caught this x) (caught this x)
tied_caught this x = search (tied_steps) depth 12

tied_base_alone : {b : ℕ} (k : ℕ) → Tied b (base_alone k) (base_alone k)
tied_base_alone k = search (tied_steps, keeps_base_call Lower lower) depth 12

tied_drop_reactions : {b : ℕ} (n : ℕ) → Tied b (drop_reactions n) (drop_reactions n)
tied_drop_reactions n = search (tied_steps, light_dropped) depth 12

tied_upgrade_threw : {b : ℕ} (n : ℕ) (x : Fault) → Tied b (upgrade_threw n x) (upgrade_threw n x)
tied_upgrade_threw n x = search (tied_steps, light_definition, tied_drop_reactions) depth 12

tied_open_queue : {b : ℕ} → Tied b open_queue open_queue
tied_open_queue = search (tied_steps, light_begun) depth 12

tied_pop_queue : {b : ℕ} → Tied b pop_queue pop_queue
tied_pop_queue = search (tied_steps, light_ended) depth 12

tied_log_any : {b : ℕ} (line : Option Event) → Tied b (log_any line) (log_any line)
tied_log_any None = tied_done
tied_log_any (Some e) = tied_log e

tied_log_call : {b : ℕ} (n : ℕ) (r : Reaction) → Tied b (log_call n r) (log_call n r)
tied_log_call n r = tied_log_any (call_event r n)

tied_create_failed : {b : ℕ} (local : List ℕ) (d : ℕ) (x : Fault) → Tied b (create_failed local d x) (create_failed local d x)
tied_create_failed local d x = search (tied_steps, keeps_make_in_state Lower lower) depth 12

tied_upgrade_failed : {b : ℕ} (n : ℕ) (x : Fault) → Tied b (upgrade_failed n x) (upgrade_failed n x)
tied_upgrade_failed n x = search (tied_steps, light_state) depth 12

tied_gives_nothing : {b : ℕ} {f g : Step State (Unit {0})} → Tied b f g → Tied b (gives_nothing f) (gives_nothing g)
tied_gives_nothing h = tied_seq h (tied_give Nothing)

tied_gives_node : {b : ℕ} {f g : Step State ℕ} → Tied b f g → Tied b (gives_node f) (gives_node g)
tied_gives_node h = tied_bind h (λ n. tied_give (Node n))

tied_keep : {b : ℕ} (var : Option (List ℕ)) (given : Given) → Tied b (keep var given) (keep var given)
tied_keep None given = tied_done
tied_keep (Some var) Nothing = tied_done
tied_keep (Some var) (Node n) = tied_set_variable var n
tied_keep (Some var) (Answers a) = tied_done
tied_keep (Some var) Ignored = tied_done

tied_kept : {b : ℕ} {f g : Step State Given} (var : Option (List ℕ)) → Tied b f g → Tied b (kept var f) (kept var g)
tied_kept var h = tied_bind h (λ given. tied_seq (tied_keep var given) (tied_give given))

tied_define_element : {b : ℕ} (name : List ℕ) (k : ℕ) (base : Option (List ℕ)) → Tied b (define_element name k base) (define_element name k base)
tied_define_element name k base = search (tied_steps, keeps_define_name Lower lower) depth 12

module _ (b : ℕ) (f g : Again) (below : (call : Call) → Tied b (f call) (g call)) where
  -- bodies: each action stands behind a fuel

  act_tied : (k : ℕ) (args : Args) (this : Option ℕ) (a : Act) → Tied b (act f k args this a) (act g k args this a)
  act_tied k args this (Both op) = search (tied_steps, below, tied_told) depth 12
  act_tied k args this (Log vals) = search (tied_steps) depth 12
  act_tied k args this Super = search (tied_steps, keeps_base_call Lower lower) depth 12
  act_tied k args this (Return o) = tied_returned this o
  act_tied k args this (Throw val) = search (tied_steps) depth 12
  act_tied k args this Bump = search (tied_steps) depth 12
  act_tied k args this (Keep val) = search (tied_steps) depth 12
  act_tied k args this (Try a) = tied_catch (tied_down (tied_spend (act_tied k args this a))) (tied_caught this)
  act_tied k args this (If equal left right a) =
      let h : Tied b (spend >> act f k args this a) (spend >> act g k args this a) = tied_down (tied_spend (act_tied k args this a)) in
      tied_bind (tied_read (λ s. (class_of s k).memory))
      (λ memory. tied_if (holds equal (text_of memory args left) (text_of memory args right)) h (tied_give (Next this)))

  body_tied : (k : ℕ) (args : Args) (this : Option ℕ) (actions : List Act) → Tied (suc b) (body f k args this actions) (body g k args this actions)
  body_tied k args this [] = tied_give this
  body_tied k args this (a ∷ rest) = tied_spend (tied_bind (act_tied k args this a) (go (λ t. body_tied k args t rest)))
    where
      go : ((t : Option ℕ) → Tied (suc b) (body f k args t rest) (body g k args t rest)) → (flow : Flow)
          → Tied b (on_flow (λ t. body f k args t rest) flow) (on_flow (λ t. body g k args t rest) flow)
      go h (Next t) = tied_down (h t)
      go h (Ended r) = tied_give r

  -- construction and upgrade

  constructor_body_tied : (k : ℕ) (c : Class) → Tied (suc b) (constructor_body f k c) (constructor_body g k c)
  constructor_body_tied k c = tied_if (has_call Constructor c.facts.calls) (body_tied k no_args None (actions_of Constructor c.bodies)) (tied_base_alone k)

  construct_tied : (k : ℕ) → Tied (suc b) (construct f k) (construct g k)
  construct_tied k = search (tied_steps, constructor_body_tied) depth 12

  construct_for_tied : (n d : ℕ) → Tied (suc b) (construct_for f n d) (construct_for g n d)
  construct_for_tied n d = search (tied_steps, light_state, construct_tied) depth 16

  upgrade_now_tied : (n d : ℕ) → Tied (suc b) (upgrade_now f n d) (upgrade_now g n d)
  upgrade_now_tied n d = search (
    tied_steps,
    keeps_begin_upgrade Lower lower,
    construct_for_tied,
    keeps_pop_construction Lower lower,
    tied_upgrade_threw,
    keeps_tell_form Lower lower,
    light_state,
  ) depth 16

  upgrade_tied : (n d : ℕ) → Tied (suc b) (upgrade f n d) (upgrade g n d)
  upgrade_tied n d = search (tied_steps, upgrade_now_tied) depth 12

  -- reactions

  call_back_tied : (n k : ℕ) (r : Reaction) → Tied (suc b) (call_back f n k r) (call_back g n k r)
  call_back_tied n k r = search (tied_steps, tied_log_call, body_tied) depth 14

  call_defined_tied : (n : ℕ) (r : Reaction) (d : Option Definition) → Tied (suc b) (call_defined f n r d) (call_defined g n r d)
  call_defined_tied n r None = tied_done
  call_defined_tied n r (Some d) = call_back_tied n d.class r

  run_reaction_tied : (n : ℕ) (r : Reaction) → Tied (suc b) (run_reaction f n r) (run_reaction g n r)
  run_reaction_tied n (UpgradeReaction d) = upgrade_tied n d
  run_reaction_tied n r = search (tied_steps, call_defined_tied) depth 12

  react_tied : (n : ℕ) (w : ℕ × Reaction) → Tied (suc b) (react f n w) (react g n w)
  react_tied n w = search (tied_steps, run_reaction_tied) depth 12

  -- a reaction is taken, so the clock falls
  drain_tied : (ns : List ℕ) → Tied (suc b) (drain f ns) (drain g ns)
  drain_tied [] = tied_done
  drain_tied (n ∷ ns) = record { at = λ s lt. go (drain_tied ns) s lt (waiting_at s.page.queues n) refl }
    where
      go : Tied (suc b) (drain f ns) (drain g ns) → (s : State) → clock s < suc b → (ws : List (ℕ × Reaction)) → waiting_at s.page.queues n ≡ ws
          → Tame (clock s)
          ((elim ws as (λ _. Step State (Unit {0}))
          [ [] ↦ drain f ns | w ∷ ws' ↦ change_page (with_queues (with_waiting n ws')) >> (react f n w >> (f (DrainRest (n ∷ ns)) >> done)) ]) s)
          ((elim ws as (λ _. Step State (Unit {0}))
          [ [] ↦ drain g ns | w ∷ ws' ↦ change_page (with_queues (with_waiting n ws')) >> (react g n w >> (g (DrainRest (n ∷ ns)) >> done)) ]) s)
      go h s lt [] eq = h.at s lt
      go h s lt (w ∷ ws) eq =
          let t : State = record s { page = with_queues (with_waiting n ws) s.page } in
          let i = with_waiting_load n ws s.page.queues in
          let j : length (waiting_at s.page.queues n) ≡ length ws + 1 = ap length eq ∙ omega arith in
          let low : clock t + 1 ≤ clock s = omega (arith, i, j) in
          let rest : Tied b (react f n w >> (f (DrainRest (n ∷ ns)) >> done)) (react g n w >> (g (DrainRest (n ∷ ns)) >> done)) =
          tied_seq (tied_down (react_tied n w)) (tied_seq (below (DrainRest (n ∷ ns))) tied_done) in
          tame_le (clock t) (clock s) _ _ (omega (arith, low)) (rest.at t (omega (arith, low, lt)))

  drain_popped_tied : (number : ℕ) → Tied (suc b) (drain_popped f number) (drain_popped g number)
  drain_popped_tied number = search (tied_steps, tied_pop_queue, drain_tied) depth 12

  reacting_tied : {A : Type 0} {m n : Step State A} → Tied (suc b) m n → Tied (suc b) (reacting f m) (reacting g n)
  reacting_tied h = tied_bind tied_open_queue (λ number. tied_finally h (drain_popped_tied number))

  -- an element of the backup queue is taken, so the clock falls
  drain_backup_tied : Tied (suc b) (drain_backup f) (drain_backup g)
  drain_backup_tied = record { at = λ s lt. go s lt s.page.queues.backup refl }
    where
      go : (s : State) → clock s < suc b → (ns : List ℕ) → s.page.queues.backup ≡ ns → Tame (clock s)
          (drain_first f ns s) (drain_first g ns s)
      go s lt [] eq = record { same = refl; low = omega arith }
      go s lt (n ∷ ns) eq =
          let t : State = record s { page = with_queues (with_backup ns) s.page } in
          let j : length s.page.queues.backup ≡ length ns + 1 = ap length eq ∙ omega arith in
          let low : clock t + 1 ≤ clock s = omega (arith, j) in
          let rest : Tied b (drain_taken f n) (drain_taken g n) = tied_seq (tied_down (drain_tied (n ∷ []))) (tied_seq (below DrainBackup) tied_done) in
          tame_le (clock t) (clock s) _ _ (omega (arith, low)) (rest.at t (omega (arith, low, lt)))

  -- creation

  construct_fit_tied : (local : List ℕ) (d k : ℕ) → Tied (suc b) (construct_fit f local d k) (construct_fit g local d k)
  construct_fit_tied local d k = search (tied_steps, construct_tied) depth 14

  create_extended_tied : (local : List ℕ) (is : Option (List ℕ)) (d x : ℕ) → Tied (suc b) (create_extended f local is d x) (create_extended g local is d x)
  create_extended_tied local is d x = search (tied_steps, keeps_make_in_state Lower lower, upgrade_tied, tied_upgrade_failed) depth 14

  create_defined_tied : (local : List ℕ) (is : Option (List ℕ)) (d n : ℕ) (x : Definition)
      → Tied (suc b) (create_defined f local is d n x) (create_defined g local is d n x)
  create_defined_tied local is d n x =
      tied_if (is_autonomous x) (tied_catch (construct_fit_tied local d x.class) (tied_create_failed local d)) (create_extended_tied local is d n)

  create_found_tied : (local : List ℕ) (is : Option (List ℕ)) (d : ℕ) (o : Option ℕ) → Tied (suc b) (create_found f local is d o) (create_found g local is d o)
  create_found_tied local is d None = tied_page (keeps_make_in_state Lower lower local is d _)
  create_found_tied local is d (Some x) = search (tied_steps, create_defined_tied) depth 12

  create_tied : (local : List ℕ) (is : Option (List ℕ)) (d : ℕ) → Tied (suc b) (create f local is d) (create g local is d)
  create_tied local is d = search (tied_steps, create_found_tied) depth 12

  create_named_tied : (name : List ℕ) (is : Option (List ℕ)) (d : ℕ) → Tied (suc b) (create_named f name is d) (create_named g name is d)
  create_named_tied name is d = search (tied_steps, create_tied) depth 12

  -- operations

  steps_tied : (deed : Deed) → Tied (suc b) (steps f deed) (steps g deed)
  steps_tied (deeds.Create local is document) = tied_gives_node (create_named_tied local is document)
  steps_tied (deeds.New class) = tied_gives_node (construct_tied class)
  steps_tied (deeds.Define name class base) = tied_gives_nothing (tied_define_element name class base)
  steps_tied (OnPage what) = tied_page (keeps_page_steps Lower lower what)
  steps_tied (OnControls what) = tied_page (keeps_control_steps Lower lower what)
  steps_tied (OnInternals what) = tied_page (keeps_internals_steps Lower lower what)
  steps_tied (OnForms what) = tied_page (keeps_form_steps Lower lower what)
  steps_tied (Submits what) = tied_submit_steps what
  steps_tied (deeds.Ask word n name) = tied_read _
  steps_tied (deeds.Let var n) = tied_gives_nothing (tied_set_variable var n)

  perform_deed_tied : (deed : Deed) → Tied (suc b) (perform_deed f deed) (perform_deed g deed)
  perform_deed_tied deed = tied_if (is_reacting deed) (reacting_tied (steps_tied deed)) (steps_tied deed)

  operate_tied : (this : Option ℕ) (op : Op) → Tied (suc b) (operate f this op) (operate g this op)
  operate_tied this op = tied_bind (tied_look this (λ v. resolve v op)) (λ deed. tied_kept (variable op) (perform_deed_tied deed))

  -- a level calls again only at a lower clock
  pub level_tied : (call : Call) → Tied (suc b) (level f call) (level g call)
  level_tied (Operate this op) = operate_tied this op
  level_tied (DrainRest ns) = tied_seq (drain_tied ns) (tied_give Nothing)
  level_tied DrainBackup = tied_seq drain_backup_tied (tied_give Nothing)
