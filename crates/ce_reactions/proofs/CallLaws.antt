-- Turns of reactions, of the whole session.
use Rattle.std.proofs.Common.{◌≡◌, ℕ, false, List, [], ◌∷◌, ◌++◌, length, Option, Some, None, refl, ap, sym, ◌∙◌}
use Rattle.rule_tokens.specs.declared.callback.CallName.{CallName}
use Rattle.rule_tokens.specs.declared.callback.CallOrUpgrade.TheVariants.{Call}
use Rattle.reaction_queue.specs.declared.reaction.Reaction.{Reaction}
use Rattle.reaction_queue.specs.declared.reaction.Reaction.TheVariants.{Upgrade}
use Rattle.reaction_queue.specs.Reactions.{upgrade_of, what_of}
use Rattle.ce_registry.specs.declared.definition.Definition.{Definition}
use Rattle.ce_events.specs.Calls.{call_event}
use Rattle.ce_events.specs.declared.event.Event.{Event}
use Rattle.ce_algorithms.specs.Body.{actions_of}
use Rattle.ce_algorithms.specs.declared.given.Given.TheVariants.{Nothing}
use Rattle.ce_algorithms.specs.Drain.{actions_for, log_call}
use Rattle.ce_algorithms.specs.Page.{definition_of}
use Rattle.ce_algorithms.specs.State.{State, class_of, log_any}
use Rattle.ce_algorithms.specs.Steps.{Outcome, Goes}
use Rattle.ce_algorithms.specs.Values.{Args, args_of}
use Rattle.ce_frames.specs.ConstructTurns.{begin_body, upgrade_turn}
use Rattle.ce_frames.specs.DrainTurns.{call_turn, reaction_turn}
use Rattle.ce_frames.specs.Frames.{Frame, InBody}
use Rattle.ce_frames.specs.Turned.{Turned, go_on, turn_after}
use Rattle.ce_frames.specs.Whole.{IsBlind, state_in, whole_in}
use Rattle.ce_frames.proofs.BlindSteps.{blind_done, blind_log}
use Rattle.ce_frames.proofs.Wholes.{class_bodies_joined}
use Rattle.frame_stack.specs.Sessions.{ArePaired, session}
use Rattle.frame_stack.specs.Stacked.{Stacked, actions_at, behaviours_of, frames_of}
use Rattle.ce_outcomes.specs.Steps.{callee}
use Rattle.ce_outcomes.specs.declared.came.Came.{Came}
use Rattle.ce_outcomes.specs.declared.came.Came.TheVariants.{Went}
use Rattle.ce_reactions.specs.Callbacks.{callback_turn}
use Rattle.ce_outcomes.specs.Turns.{Turns}
use Rattle.ce_reactions.proofs.SessionLaws.{session_is}
use Rattle.ce_outcomes.proofs.TurnLaws.{turns_as, turns_same}

-- what a reaction does

pub upgrade_is : (n d : ℕ) (r : Reaction) (s : State) → Some d ≡ upgrade_of r → upgrade_turn n d s ≡ reaction_turn n r s
unfolding reaction_turn
upgrade_is n d (Upgrade c) s is = let same : d ≡ c = cc in ap (λ (x : ℕ). upgrade_turn n x s) same
upgrade_is n d r s is = absurd (let x : Some d ≡ None = is in cc)

reaction_is : (n : ℕ) (r : Reaction) (s : State) → upgrade_of r ≡ None → reaction_turn n r s ≡ call_turn n r (definition_of s.page n) s
unfolding reaction_turn
reaction_is n (Upgrade d) s h = absurd (let x : Some d ≡ None = h in cc)
reaction_is n r s h = refl

calls_none : (n : ℕ) (r : Reaction) (d : Option Definition) (s : State) → None ≡ callee d → call_turn n r d s ≡ go_on s
calls_none n r None s h = refl
calls_none n r (Some d) s h = cc

calls_some : (n class : ℕ) (r : Reaction) (d : Option Definition) (s : State) → Some class ≡ callee d → callback_turn n class r s ≡ call_turn n r d s
calls_some n class r None s h = cc
calls_some n class r (Some d) s h = let same : class ≡ d.class = cc in ap (λ k. callback_turn n k r s) same

-- its element has no definition
pub call_none : (frames : List Frame) (n : ℕ) (r : Reaction) (s : State) → upgrade_of r ≡ None → None ≡ callee (definition_of s.page n)
    → Turns frames frames (Went Nothing) s (reaction_turn n r s)
call_none frames n r s is none =
    turns_as frames frames (Went Nothing) s (go_on s) (reaction_turn n r s) (sym (reaction_is n r s is ∙ calls_none n r (definition_of s.page n) s none))
    (turns_same frames (Went Nothing) s (Goes Nothing s) refl)

-- its callback begins
pub call_some : (frames new : List Frame) (now : Came) (n class : ℕ) (r : Reaction) (s s1 : State) → upgrade_of r ≡ None
    → Some class ≡ callee (definition_of s.page n) → Turns frames new now s1 (callback_turn n class r s) → Turns frames new now s1 (reaction_turn n r s)
call_some frames new now n class r s s1 is some h =
    turns_as frames new now s1 (callback_turn n class r s) (reaction_turn n r s)
    (calls_some n class r (definition_of s.page n) s some ∙ sym (reaction_is n r s is)) h

-- a callback begins

line_blind : (line : Option Event) → IsBlind (log_any line)
line_blind None = blind_done
line_blind (Some e) = blind_log e

call_blind : (n : ℕ) (r : Reaction) → IsBlind (log_call n r)
call_blind n r = line_blind (call_event r n)

module _ (old new : Stacked) (n class : ℕ) (r : Reaction) (s s1 : State) (told : Goes tt s1 ≡ log_call n r s) (paired : ArePaired old s)
    (same : behaviours_of new ≡ behaviours_of old) where
  count : length s1.classes ≡ length s.classes
  count = ap (λ (o : Outcome State (Unit {0})). length (state_in o).classes) told ∙ (call_blind n r).classes s

  told_whole : Goes tt (session old s1) ≡ log_call n r (session old s)
  told_whole = ap (whole_in (behaviours_of old)) told ∙ sym ((call_blind n r).same (behaviours_of old) s)

  abbrev begins : State → Turned
  begins t = begin_body class (args_of r) (Some n) (actions_for (what_of r) (class_of t class).bodies) t

  actions_are : (call : CallName) → what_of r ≡ Call call
      → actions_for (what_of r) (class_of (session old s1) class).bodies ≡ actions_at call class (behaviours_of old)
  actions_are call what =
      ap (λ w. actions_for w (class_of (session old s1) class).bodies) what
      ∙ ap (actions_of call) (class_bodies_joined s1 (behaviours_of old) class (count ∙ paired))

  pub begun_turns : (call : CallName) (args : Args) → what_of r ≡ Call call → args ≡ args_of r
      → frames_of new ≡ frames_of old ++ InBody class args (Some n) false (actions_at call class (behaviours_of old)) ∷ []
      → Turns (frames_of old) (frames_of new) (Went Nothing) (session new s1) (callback_turn n class r (session old s))
  begun_turns call args what is put =
      turns_as (frames_of old) (frames_of new) (Went Nothing) (session new s1) _ _
      (ap (λ (o : Outcome State (Unit {0})). turn_after o (λ _. begins)) told_whole)
      (record {
        frames = put ∙ ap (λ (a : Args). frames_of old ++ InBody class a (Some n) false (actions_at call class (behaviours_of old)) ∷ []) is
            ∙ ap (λ l. frames_of old ++ InBody class (args_of r) (Some n) false l ∷ []) (sym (actions_are call what));
        end = refl;
        state = session_is old new s1 s1 same refl;
      })
