-- The parts of classes, where the behaviours of classes are kept apart.
use Rattle.std.proofs.Common.{◌≡◌, ℕ, ◌<◌, List, [], ◌∷◌, ◌++◌, length, Result, Ok, Err, ap, sym, ◌∙◌, arith}
use Rattle.ce_base.specs.declared.fault.Fault.{Fault}
use Rattle.ce_base.specs.declared.fault.Refused.{Refused}
use Rattle.ce_base.specs.declared.fault.Refused.TheVariants.{Fault as IsFault, NoMemory}
use Rattle.rule_tokens.specs.declared.callback.CallName.{CallName}
use Rattle.rule_lines.specs.Acts.{Act}
use Rattle.ce_algorithms.specs.Parts.{add_class, change_open, open_class, with_body}
use Rattle.ce_algorithms.specs.State.{State}
use Rattle.ce_algorithms.specs.Steps.{Step, Goes, Throws}
use Rattle.ce_frames.specs.Places.{Behaviour}
use Rattle.ce_frames.specs.Whole.{IsBlind, whole, whole_in}
use Rattle.ce_frames.proofs.BlindParts.{class_joined, class_throws, on_joined, on_throws}
use Rattle.behaviours.specs.Behaviours.{new_behaviour}
use Rattle.frame_stack.specs.Changes.{extended}
use Rattle.frame_stack.specs.Stacked.{behaviour_at}
use Rattle.session_state.specs.Steps.{with_call_at}
use Rattle.session_state.specs.Taking.{Takes}
use Rattle.frame_stack.proofs.ClassLaws.{behaviour_there}

-- a step that reads nothing of the behaviours is taken on the whole state too
pub blind_takes : (step : Step State (Unit {0})) (bs : List Behaviour) (s new : State) (r : Result (Unit {0}) Refused) → IsBlind step → Takes r new (step s)
    → Takes r (whole bs new) (step (whole bs s))
blind_takes step bs s new (Ok x) b e = ap (whole_in bs) e ∙ sym (b.same bs s)
blind_takes step bs s new (Err (IsFault f)) b e = ap (whole_in bs) e ∙ sym (b.same bs s)
blind_takes step bs s new (Err NoMemory) b e = tt

-- a class comes, with its behaviour

pub class_refused : (name : List ℕ) (bs : List Behaviour) (s new : State) (x : Refused) → Takes (Err x) new (add_class name s)
    → Takes (Err x) (whole bs new) (add_class name (whole bs s))
class_refused name bs s new (IsFault f) e = sym (class_throws name bs s new f (sym e))
class_refused name bs s new NoMemory e = tt

pub class_taken : (name : List ℕ) (bs more : List Behaviour) (s new : State) → length s.classes ≡ length bs → Goes tt new ≡ add_class name s
    → more ≡ bs ++ new_behaviour ∷ []
    → Goes tt (whole more new) ≡ add_class name (whole bs s)
class_taken name bs more s new each e is = ap (λ (l : List Behaviour). Goes tt (whole l new)) is ∙ sym (class_joined name bs s new (sym e) each)

-- an action comes to a class's body

pub action_refused : (name : List ℕ) (call : CallName) (action : Act) (bs : List Behaviour) (s : State) (f : Fault) → Throws f s ≡ open_class name s
    → Throws f (whole bs s) ≡ change_open name (with_body call action) (whole bs s)
action_refused name call action bs s f e = sym (on_throws name call action bs s s f (sym e))

pub action_taken : (name : List ℕ) (call : CallName) (action : Act) (bs more : List Behaviour) (s new : State) (k : ℕ) → length s.classes ≡ length bs
    → Goes k s ≡ open_class name s → k < length s.classes
    → new ≡ with_call_at k call s → more ≡ extended k call action bs → Goes tt (whole more new) ≡ change_open name (with_body call action) (whole bs s)
action_taken name call action bs more s new k each e within is also =
    let h : k < length bs = omega (arith, within, each) in
    ap (λ (l : List Behaviour). Goes tt (whole l new)) also
    ∙ ap (λ (t : State). Goes tt (whole (extended k call action bs) t)) is
    ∙ sym (on_joined name call action bs s s k (behaviour_at k bs) (sym e) (behaviour_there bs k h))
