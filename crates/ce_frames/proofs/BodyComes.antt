-- The turns of bodies come to what the bodies come to.
use Rattle.std.proofs.Common.{◌≡◌, ℕ, zero, suc, Bool, true, false, List, [], ◌∷◌, Option, refl, ap, sym, ◌∙◌}
use Rattle.rule_lines.specs.declared.op.Op.{Op}
use Rattle.rule_lines.specs.Acts.{Act, Both, Try, If}
use Rattle.ce_events.specs.declared.event.Event.TheVariants.{FuelLine}
use Rattle.ce_algorithms.specs.Steps.{Step, Goes, Spent, then_do, ◌>>◌, give}
use Rattle.ce_algorithms.specs.State.{State, class_of, logged, spend, spend_from}
use Rattle.ce_algorithms.specs.Calls.{Operate}
use Rattle.ce_algorithms.specs.Values.{Args, text_of, fixed}
use Rattle.ce_algorithms.specs.Body.{Flow, Next, Ended, told_next, on_flow, act, body, holds}
use Rattle.ce_algorithms.specs.Model.{model}
use Rattle.ce_algorithms.proofs.Steady.{model_level}
use Rattle.ce_frames.specs.Frames.{InBody}
use Rattle.ce_frames.specs.Handing.{a_result, given_of}
use Rattle.ce_frames.specs.After.{after, guard, acted}
use Rattle.ce_frames.specs.Turned.{Turn, turn_after, below, no_calls}
use Rattle.ce_frames.specs.OperateTurns.{operate_turn}
use Rattle.ce_frames.specs.BodyTurns.{flow_turn, act_turn, body_turn}
use Rattle.ce_frames.proofs.Joins.{then_assoc, guard_twice}
use Rattle.ce_frames.proofs.Comes.{comes, Comes, comes_ended, comes_down, comes_below, comes_after, comes_then, comes_if}
use Rattle.ce_frames.proofs.OperateComes.{operate_comes}

-- the body goes on behind what goes on
pub acted_next : (class : ℕ) (args : Args) (this next : Option ℕ) (guarded : Bool) (actions : List Act) (s : State)
    → a_result (body model class args next actions s) ≡ a_result (acted class args actions (guard guarded this (Goes (Next next) s)))
acted_next class args this next true actions s = refl
acted_next class args this next false actions s = refl

-- the fuel is out
acted_spent : (class : ℕ) (args : Args) (this : Option ℕ) (guarded : Bool) (actions : List Act) (s : State)
    → Spent s ≡ a_result (acted class args actions (guard guarded this (Spent s)))
acted_spent class args this true actions s = refl
acted_spent class args this false actions s = refl

module _ (class : ℕ) (args : Args) (actions : List Act) where
  -- an operation runs above the body's frame
  operation_comes : (this : Option ℕ) (guarded : Bool) (op : Op)
      → Comes (below (InBody class args this guarded actions) (operate_turn this op))
      (λ s. a_result (acted class args actions (guard guarded this (then_do (model (Operate this op) s) (told_next this)))))
  unfolding after
  operation_comes this guarded op =
      comes_below (InBody class args this guarded actions) (operate_comes this op)
      (λ s. ap (λ o. a_result (acted class args actions (guard guarded this (then_do o (told_next this))))) (sym (model_level (Operate this op) s)))

  -- behind a unit of fuel
  spent_comes : (this : Option ℕ) (guarded : Bool) {turn : Turn} (step : Step State Flow)
      → Comes turn (λ s. a_result (acted class args actions (guard guarded this (step s)))) → (s : State)
      → comes (turn_after (spend s) (λ _. turn)) ≡ a_result (acted class args actions (guard guarded this ((spend >> step) s)))
  spent_comes this guarded {turn} step h s = go s.fuel
    where
      go : (n : ℕ)
          → comes (turn_after (spend_from n s) (λ _. turn)) ≡ a_result (acted class args actions (guard guarded this (then_do (spend_from n s) (λ _. step))))
      go zero = comes_ended (Spent (logged FuelLine s)) ∙ acted_spent class args this guarded actions (logged FuelLine s)
      go (suc n) = h.at (record s { fuel = n })

  module _ (rest : Option ℕ → Turn) (rests : (this : Option ℕ) → Comes (rest this) (λ s. a_result (body model class args this actions s))) where
    flow_comes : (flow : Flow) → Comes (flow_turn rest flow) (λ s. a_result (on_flow (λ this. body model class args this actions) flow s))
    flow_comes (Next this) = rests this
    flow_comes (Ended result) = comes_down (give (given_of result))

    pub act_comes : (this : Option ℕ) (guarded : Bool) (a : Act)
        → Comes (act_turn class args this guarded actions rest a)
        (λ s. a_result (acted class args actions (guard guarded this (act model class args this a s))))
    unfolding act_turn
    act_comes this guarded (Both op) = record { at = λ s. (operation_comes this guarded (fixed (class_of s class).memory args op)).at s }
    act_comes this guarded (Try a) =
        record {
          at = λ s. spent_comes this true (act model class args this a) (act_comes this true a) s
              ∙ sym (ap (λ o. a_result (acted class args actions o)) (guard_twice guarded this ((spend >> act model class args this a) s)));
        }
    act_comes this guarded (If equal left right a) =
        record {
          at = λ s.
              (comes_if (holds equal (text_of (class_of s class).memory args left) (text_of (class_of s class).memory args right))
              (λ o. a_result (acted class args actions (guard guarded this o)))
              (record { at = λ t. spent_comes this guarded (act model class args this a) (act_comes this guarded a) t })
              (record { at = λ t. (rests this).at t ∙ acted_next class args this this guarded actions t })).at s;
        }
    act_comes this guarded a =
        record {
          at = λ s. comes_after (guard guarded this (act no_calls class args this a s)) flow_comes
              ∙ sym (then_assoc (guard guarded this (act model class args this a s)) (on_flow (λ next. body model class args next actions))
              (λ result. give (given_of result)));
        }

pub body_comes : (class : ℕ) (args : Args) (this : Option ℕ) (actions : List Act)
    → Comes (body_turn class args this actions) (λ s. a_result (body model class args this actions s))
unfolding body_turn
body_comes class args this [] = comes_down (give (given_of this))
body_comes class args this (a ∷ actions) =
    comes_then _ _ _ (λ _. act_comes class args actions (λ next. body_turn class args next actions) (λ next. body_comes class args next actions) this false a)
