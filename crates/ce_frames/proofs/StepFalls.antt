-- The steps of the algorithms that run no body do not raise the potential.
use Rattle.std.proofs.Common.{ℕ, Bool, true, false, List, Option, Some, None}
use Rattle.std.specs.Prelude.{if◌then◌else◌}
use Rattle.ce_base.specs.declared.fault.Fault.{Fault}
use Rattle.element_names.specs.declared.input_kinds.InputKind.{InputKind}
use Rattle.element_names.specs.declared.input_kinds.InputKind.TheVariants.{Submit, Reset}
use Rattle.form_controls.specs.Kinds.{is_kind, kind_of}
use Rattle.form_submission.specs.Requests.{request_fit}
use Rattle.rule_tokens.specs.declared.operand.Operand.{Operand}
use Rattle.reaction_queue.specs.declared.reaction.Reaction.{Reaction}
use Rattle.ce_events.specs.Calls.{call_event}
use Rattle.ce_events.specs.declared.event.Event.{Event}
use Rattle.ce_algorithms.specs.declared.deed.SubmitDeed.{SubmitDeed}
use Rattle.ce_algorithms.specs.declared.deed.SubmitDeed.TheVariants as submit_deeds
use Rattle.ce_algorithms.specs.declared.given.Given.{Given}
use Rattle.ce_algorithms.specs.declared.given.Given.TheVariants.{Nothing, Node, Answers, Ignored}
use Rattle.ce_algorithms.specs.Steps.{Step, throw_any}
use Rattle.ce_algorithms.specs.Page.{Page}
use Rattle.ce_algorithms.specs.Forms.{forms_of, form_owner, is_disabled}
use Rattle.ce_algorithms.specs.State.{State, log_any}
use Rattle.ce_algorithms.specs.Controls.{ignored_or}
use Rattle.ce_algorithms.specs.Submission.{plan, submitted, submit, request, act_on, activate_in, submit_steps}
use Rattle.ce_algorithms.specs.Body.{told, returned}
use Rattle.ce_algorithms.specs.Upgrade.{drop_reactions, upgrade_threw, upgrade_ends}
use Rattle.ce_algorithms.specs.Drain.{log_call}
use Rattle.ce_algorithms.specs.Create.{fitting, create_failed, upgrade_failed}
use Rattle.ce_algorithms.specs.Perform.{define_element, keep, named}
use Rattle.ce_algorithms.proofs.PageSteps.{keeps_make_in_state, keeps_tell_form, keeps_define_name, keeps_reset_form}
use Rattle.ce_frames.specs.ConstructTurns.{fitting_given, same_given}
use Rattle.ce_frames.proofs.Falls.{Sinks, sinks, Falls, falls_steps, falls_bind, falls_seq, falls_give, falls_done, falls_read, falls_read_page, falls_page}
use Rattle.ce_frames.proofs.Falls.{falls_throw_if, falls_log, falls_set_variable, falls_throw}

-- steps

pub falls_told : (given : Given) → Falls (told given)
falls_told Nothing = falls_done
falls_told (Node n) = falls_done
falls_told (Answers a) = falls_log _
falls_told Ignored = falls_done

pub falls_returned : (this : Option ℕ) (o : Option Operand) → Falls (returned this o)
falls_returned this None = falls_give _
falls_returned this (Some o) = search (falls_steps) depth 12

falls_log_any : (line : Option Event) → Falls (log_any line)
falls_log_any None = falls_done
falls_log_any (Some e) = falls_log e

pub falls_log_call : (n : ℕ) (r : Reaction) → Falls (log_call n r)
falls_log_call n r = falls_log_any (call_event r n)

pub falls_define_element : (name : List ℕ) (k : ℕ) (base : Option (List ℕ)) → Falls (define_element name k base)
falls_define_element name k base = search (falls_steps, keeps_define_name Sinks sinks) depth 12

-- what submits a form

falls_ignored_or : {f : Step State (Unit {0})} (t : Bool) → Falls f → Falls (ignored_or t f)
falls_ignored_or true h = falls_give _
falls_ignored_or false h = falls_seq h (falls_give _)

falls_if : {f g : Step State (Unit {0})} (t : Bool) → Falls f → Falls g → Falls (if t then f else g)
falls_if true h k = h
falls_if false h k = k

falls_throw_any : (o : Option Fault) → Falls (throw_any o)
falls_throw_any None = falls_done
falls_throw_any (Some f) = falls_throw f

falls_submit : (form : ℕ) (submitter : Option ℕ) (by_call : Bool) → Falls (submit form submitter by_call)
falls_submit form submitter by_call =
    falls_bind (falls_read (λ (s : State). plan s.page s.site form submitter by_call)) (λ sent. falls_log (submitted form sent))

falls_request : (form : ℕ) (submitter : Option ℕ) → Falls (request form submitter)
falls_request form submitter =
    falls_seq (falls_bind (falls_read (λ (s : State). request_fit (forms_of s.page) form submitter)) falls_throw_any) (falls_submit form submitter false)

falls_act_on : (button form : ℕ) (kind : Option InputKind) → Falls (act_on button form kind)
falls_act_on button form kind =
    falls_if (is_kind Submit kind) (falls_submit form (Some button) false)
    (falls_if (is_kind Reset kind) (falls_page (keeps_reset_form Sinks sinks form)) falls_done)

falls_activate_in : (button : ℕ) (owner : Option ℕ) → Falls (activate_in button owner)
falls_activate_in button None = falls_done
falls_activate_in button (Some form) = falls_bind (falls_read_page (λ (p : Page). kind_of p.forest button)) (falls_act_on button form)

pub falls_submit_steps : (what : SubmitDeed) → Falls (submit_steps what)
falls_submit_steps (submit_deeds.Submit form) = falls_seq (falls_submit form None true) (falls_give _)
falls_submit_steps (submit_deeds.Request form submitter) = falls_seq (falls_request form submitter) (falls_give _)
falls_submit_steps (submit_deeds.Press button) =
    falls_bind (falls_read_page (λ (p : Page). is_disabled p button))
    (λ ignored. falls_ignored_or ignored (falls_bind (falls_read_page (λ (p : Page). form_owner p button)) (falls_activate_in button)))

-- variables, and the ends of constructions

falls_keep : (var : Option (List ℕ)) (given : Given) → Falls (keep var given)
falls_keep None given = falls_done
falls_keep (Some var) Nothing = falls_done
falls_keep (Some var) (Node n) = falls_set_variable var n
falls_keep (Some var) (Answers a) = falls_done
falls_keep (Some var) Ignored = falls_done

pub falls_named : (var : Option (List ℕ)) (given : Given) → Falls (named var given)
falls_named var given = falls_seq (falls_keep var given) (falls_give given)

falls_fitting : (local : List ℕ) (document n : ℕ) → Falls (fitting local document n)
falls_fitting local document n = search (falls_steps) depth 12

pub falls_create_failed : (local : List ℕ) (document : ℕ) (x : Fault) → Falls (create_failed local document x)
falls_create_failed local document x = search (falls_steps, keeps_make_in_state Sinks sinks) depth 12

pub falls_upgrade_failed : (n : ℕ) (x : Fault) → Falls (upgrade_failed n x)
falls_upgrade_failed n x = search (falls_steps) depth 12

falls_drop_reactions : (n : ℕ) → Falls (drop_reactions n)
falls_drop_reactions n = search (falls_steps) depth 12

pub falls_upgrade_threw : (n : ℕ) (x : Fault) → Falls (upgrade_threw n x)
falls_upgrade_threw n x = search (falls_steps, falls_drop_reactions) depth 12

pub falls_upgrade_ends : (n : ℕ) → Falls (upgrade_ends n)
falls_upgrade_ends n = search (falls_steps, keeps_tell_form Sinks sinks) depth 12

pub falls_fitting_given : (local : List ℕ) (document : ℕ) (given : Given) → Falls (fitting_given local document given)
falls_fitting_given local document Nothing = falls_throw _
falls_fitting_given local document (Node n) = falls_fitting local document n
falls_fitting_given local document (Answers a) = falls_throw _
falls_fitting_given local document Ignored = falls_throw _

pub falls_same_given : (n : ℕ) (given : Given) → Falls (same_given n given)
falls_same_given n Nothing = falls_throw _
falls_same_given n (Node m) = falls_throw_if _ _
falls_same_given n (Answers a) = falls_throw _
falls_same_given n Ignored = falls_throw _
