-- The base call of a body, of the whole session.
use Rattle.std.proofs.Common.{◌≡◌, ℕ, ◌≤◌, Bool, true, false, length, Option, Some, refl, ap, sym, ◌∙◌, subst, arith}
use Rattle.std.specs.Prelude.{Err, IfSome, is_some}
use Rattle.ce_base.specs.declared.fault.Fault.{Fault}
use Rattle.ce_base.specs.declared.fault.Fault.TheVariants.{ReferenceError}
use Rattle.node_trees.specs.Nodes.{IsNode, size}
use Rattle.rule_lines.specs.Acts.{Super}
use Rattle.behaviours.specs.Resume.{Throwing}
use Rattle.ce_algorithms.specs.Body.{Flow, Next}
use Rattle.ce_algorithms.specs.Construction.{base_call}
use Rattle.ce_algorithms.specs.State.{State, on_page}
use Rattle.ce_algorithms.specs.Steps.{Outcome, Goes, Throws, Spent, Step, ◌>>◌, give, then_do, throw_if}
use Rattle.ce_frames.specs.After.{guard}
use Rattle.ce_frames.specs.BodyTurns.{act_turn, body_turn, flow_turn}
use Rattle.ce_frames.specs.Frames.{Frame}
use Rattle.ce_frames.specs.Turned.{Turned, ended, turn_after}
use Rattle.ce_frames.proofs.BlindSteps.{blind_on_page}
use Rattle.ce_page.specs.declared.stop.PageStop.{PageStop}
use Rattle.ce_page.specs.declared.stop.PageStop.TheVariants.{FuelSpent, Refused}
use Rattle.ce_page.specs.Ends.{Ends}
use Rattle.frame_stack.specs.Changes.{SetsThis}
use Rattle.frame_stack.specs.Sessions.{ArePaired, session}
use Rattle.frame_stack.specs.Stacked.{HasBody, Stacked, behaviours_of, below_top, frames_of, guarded_of, in_body, owner_of, this_of, top_of}
use Rattle.frame_stack.proofs.TopLaws.{below_push, top_push}
use Rattle.ce_outcomes.specs.declared.came.Came.TheVariants.{Over}
use Rattle.ce_outcomes.specs.Placed.{Lasts}
use Rattle.ce_outcomes.specs.Turns.{Turns}
use Rattle.ce_drains.proofs.SessionLaws.{goes_whole, session_is, spent_whole, throws_whole}
use Rattle.ce_outcomes.proofs.TurnLaws.{turns_ended}
use Rattle.ce_machine.specs.Bodies.{GoesOn, acting_turn, based_turn, frame_on_top, running_turn, stopped_turn}
use Rattle.ce_machine.proofs.BodyLaws.{lasts_ended, on_top}

-- an outcome that is no fault is handed on, in a `try` or not
guard_goes : (g : Bool) (this : Option ℕ) (x : Flow) (s : State) → guard g this (Goes x s) ≡ Goes x s
guard_goes true this x s = refl
guard_goes false this x s = refl

guard_spent : (g : Bool) (this : Option ℕ) (s : State) → guard g this (Spent s) ≡ Spent s
guard_spent true this s = refl
guard_spent false this s = refl

-- it has ended

pub refused_throws : (stop : PageStop) (f : Fault) (s1 : State) (o : Outcome State ℕ) → stop ≡ Refused f → Ends (λ n. n) (Err stop) s1 o → Throws f s1 ≡ o
refused_throws stop f s1 o is h = subst (λ (x : PageStop). Ends (λ n. n) (Err x) s1 o) is h

pub fuel_spent : (stop : PageStop) (s1 : State) (o : Outcome State ℕ) → stop ≡ FuelSpent → Ends (λ n. n) (Err stop) s1 o → Spent s1 ≡ o
fuel_spent stop s1 o is h = subst (λ (x : PageStop). Ends (λ n. n) (Err x) s1 o) is h

module _ (old : Stacked) (b : HasBody (frames_of old)) (class : ℕ) (s : State) (owns : Some class ≡ owner_of (top_of (frames_of old))) where
  abbrev base : Step State ℕ
  base = on_page (base_call class)

  own : class ≡ b.body.class
  own = let e : Some class ≡ Some b.body.class = owns ∙ ap owner_of b.top in cc

  -- what the action comes to, by what the base call comes to
  abbrev behind : Outcome State ℕ → Turned
  behind o =
      turn_after (guard b.body.guarded b.body.this (then_do o (λ n. throw_if (is_some b.body.this) ReferenceError >> give (Next (Some n)))))
      (flow_turn (λ next. body_turn b.body.class b.body.args next b.body.actions))

  super_is : behind (on_page (base_call b.body.class) (session old s)) ≡ acting_turn Super (frame_on_top old) (session old s)
  unfolding act_turn
  super_is = sym (ap (λ (f : Frame). acting_turn Super f (session old s)) (on_top old b))

  acts : (o : Outcome State ℕ) → o ≡ base (session old s) → behind o ≡ acting_turn Super (frame_on_top old) (session old s)
  acts o is = ap behind (is ∙ ap (λ k. on_page (base_call k) (session old s)) own) ∙ super_is

  -- it has given a node
  pub based_is : (n : ℕ) (s1 : State) → Goes n s1 ≡ base s
      → based_turn n (frame_on_top old) (session old s1) ≡ acting_turn Super (frame_on_top old) (session old s)
  based_is n s1 is = ap (λ (f : Frame). based_turn n f (session old s1)) (on_top old b)
      ∙ acts (Goes n (session old s1)) (goes_whole base old old n s s1 (blind_on_page (base_call class)) refl is)

  -- it has thrown
  pub base_throws : (f : Fault) (guarded : Bool) (s1 : State) → guarded ≡ guarded_of (top_of (frames_of old)) → Throws f s1 ≡ base s
      → stopped_turn (Throwing f guarded) (frame_on_top old) (session old s1) ≡ acting_turn Super (frame_on_top old) (session old s)
  base_throws f guarded s1 on is =
      ap (λ (g : Bool). stopped_turn (Throwing f g) (frame_on_top old) (session old s1)) (on ∙ ap guarded_of b.top)
      ∙ ap (λ (x : Frame). stopped_turn (Throwing f b.body.guarded) x (session old s1)) (on_top old b)
      ∙ acts (Throws f (session old s1)) (throws_whole base old f s s1 (blind_on_page (base_call class)) is)

  -- the fuel is spent in it
  spent_is : (s1 : State) → Spent s1 ≡ base s → ended (Spent (session old s1)) ≡ acting_turn Super (frame_on_top old) (session old s)
  spent_is s1 is =
      ap (λ (o : Outcome State Flow). turn_after o (flow_turn (λ next. body_turn b.body.class b.body.args next b.body.actions)))
      (sym (guard_spent b.body.guarded b.body.this (session old s1)))
      ∙ acts (Spent (session old s1)) (spent_whole base old s s1 (blind_on_page (base_call class)) is)

  pub base_spent_turns : (new : Stacked) (s1 : State) → Spent s1 ≡ base s → frames_of new ≡ below_top (frames_of old) → behaviours_of new ≡ behaviours_of old
      → Turns (below_top (frames_of old)) (frames_of new) Over (session new s1) (acting_turn Super (frame_on_top old) (session old s))
  base_spent_turns new s1 is fs same =
      turns_ended (below_top (frames_of old)) (frames_of new) Over (session new s1) (Spent (session old s1)) _ fs
      (ap (λ (t : State). Spent t) (session_is old new s1 s1 same refl)) (spent_is s1 is)

  pub base_spent_lasts : (s1 : State) → Spent s1 ≡ base s → size s.page.forest ≤ size s1.page.forest
      → Lasts s.page.forest (acting_turn Super (frame_on_top old) (session old s))
  base_spent_lasts s1 is le = lasts_ended s.page.forest (Spent (session old s1)) _ le tt (spent_is s1 is)

-- the node is `this`

-- unless `this` was set before
pub set_before : (old : Stacked) (b : HasBody (frames_of old)) (n : ℕ) (s : State) (this : Option ℕ) (guarded : Bool) → this ≡ this_of (top_of (frames_of old))
    → is_some this ≡ true → guarded ≡ guarded_of (top_of (frames_of old))
    → stopped_turn (Throwing ReferenceError guarded) (frame_on_top old) (session old s) ≡ based_turn n (frame_on_top old) (session old s)
set_before old b n s this guarded is on g =
    ap (λ (x : Bool). stopped_turn (Throwing ReferenceError x) (frame_on_top old) (session old s)) (g ∙ ap guarded_of b.top)
    ∙ ap (λ (x : Frame). stopped_turn (Throwing ReferenceError b.body.guarded) x (session old s)) (on_top old b)
    ∙ ap (λ (x : Bool). turn_after (guard b.body.guarded b.body.this (then_do (throw_if x ReferenceError (session old s)) (λ _. give (Next (Some n)))))
    (flow_turn (λ next. body_turn b.body.class b.body.args next b.body.actions)))
    (sym (ap is_some (sym (is ∙ ap this_of b.top)) ∙ on))
    ∙ sym (ap (λ (x : Frame). based_turn n x (session old s)) (on_top old b))

module _ (old new : Stacked) (n : ℕ) (s : State) (h : SetsThis old new n) where
  abbrev old_body : HasBody (frames_of old)
  old_body = record { body = h.body; top = h.top }

  new_top : top_of (frames_of new) ≡ Some (in_body (record h.body { this = Some n }))
  new_top = ap top_of h.frames ∙ top_push (below_top (frames_of old)) (in_body (record h.body { this = Some n }))

  abbrev new_body : HasBody (frames_of new)
  new_body = record { body = record h.body { this = Some n }; top = new_top }

  based : is_some h.body.this ≡ false
      → body_turn h.body.class h.body.args (Some n) h.body.actions (session old s) ≡ based_turn n (frame_on_top old) (session old s)
  based off =
      ap (λ (o : Outcome State Flow). turn_after o (flow_turn (λ next. body_turn h.body.class h.body.args next h.body.actions)))
      (sym (guard_goes h.body.guarded h.body.this (Next (Some n)) (session old s)))
      ∙ ap (λ (x : Bool). turn_after (guard h.body.guarded h.body.this (then_do (throw_if x ReferenceError (session old s)) (λ _. give (Next (Some n)))))
      (flow_turn (λ next. body_turn h.body.class h.body.args next h.body.actions))) (sym off)
      ∙ sym (ap (λ (x : Frame). based_turn n x (session old s)) (on_top old old_body))

  pub this_goes_on : (this : Option ℕ) → this ≡ this_of (top_of (frames_of old)) → is_some this ≡ false → IsNode s.page.forest n → ArePaired old s
      → GoesOn old new s s (based_turn n)
  this_goes_on this is off node paired = record {
    body = new_body;
    below = ap below_top h.frames ∙ below_push (below_top (frames_of old)) (in_body (record h.body { this = Some n }));
    this = λ there. subst (λ (o : Option ℕ). IfSome o (IsNode s.page.forest)) (sym (ap this_of new_top)) node;
    same = ap (λ (f : Frame). running_turn f (session new s)) (on_top new new_body)
        ∙ ap (body_turn h.body.class h.body.args (Some n) h.body.actions) (session_is old new s s h.behaviours refl)
        ∙ based (ap is_some (sym (is ∙ ap this_of h.top)) ∙ off);
    paired = paired ∙ sym (ap (λ bs. length bs) h.behaviours);
    grows = omega arith;
    fuel = omega arith;
  }
