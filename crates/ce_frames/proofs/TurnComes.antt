-- A turn leaves what is still to come.
use Rattle.std.proofs.Common.{◌≡◌, ℕ, Bool, true, List, [], ◌∷◌, ◌++◌, Option, refl, ap, sym, ◌∙◌}
use Rattle.std.specs.Prelude.{Ok, Err}
use Rattle.ce_base.specs.declared.fault.Fault.{Fault}
use Rattle.rule_lines.specs.Acts.{Act}
use Rattle.ce_events.specs.declared.event.Event.TheVariants.{Asked, Caught}
use Rattle.ce_algorithms.specs.declared.given.Given.{Given}
use Rattle.ce_algorithms.specs.declared.given.Given.TheVariants.{Nothing, Node, Answers, Ignored}
use Rattle.ce_algorithms.specs.Steps.{Goes, Throws, Spent}
use Rattle.ce_algorithms.specs.State.{State, logged}
use Rattle.ce_algorithms.specs.Values.{Args}
use Rattle.ce_frames.specs.Frames.{Frame, Replying, DrainingBackup, Stepping, Draining, InBody, CreatingFit, Upgrading}
use Rattle.ce_frames.specs.After.{after}
use Rattle.ce_frames.specs.Rest.{rest, WaitEnd, Went, Threw, Over, outcome_of}
use Rattle.ce_frames.specs.Turned.{Turned, to_come}
use Rattle.ce_frames.specs.Turns.{turn_went, turn_threw, turn}
use Rattle.ce_frames.proofs.Comes.{comes, Comes, comes_ended}
use Rattle.ce_frames.proofs.ConstructComes.{fit_went, upgraded_comes, upgrade_went}
use Rattle.ce_frames.proofs.OperateComes.{pop_comes}
use Rattle.ce_frames.proofs.BodyComes.{acted_next, body_comes}
use Rattle.ce_frames.proofs.DrainComes.{drain_comes, backup_comes, check_comes}
use Rattle.ce_frames.proofs.Resting.{rest_append, rest_push, after_spent}

-- an operation of a body has ended
body_goes_on : (class : ℕ) (args : Args) (this : Option ℕ) (guarded : Bool) (actions : List Act) (given : Given)
    → Comes (turn_went (InBody class args this guarded actions) given) (λ s. after (InBody class args this guarded actions) (Goes given s))
unfolding after
body_goes_on class args this guarded actions Nothing =
    record { at = λ s. (body_comes class args this actions).at s ∙ acted_next class args this this guarded actions s }
body_goes_on class args this guarded actions (Node n) =
    record { at = λ s. (body_comes class args this actions).at s ∙ acted_next class args this this guarded actions s }
body_goes_on class args this guarded actions (Answers a) =
    record { at = λ s. let t : State = logged (Asked a) s in (body_comes class args this actions).at t ∙ acted_next class args this this guarded actions t }
body_goes_on class args this guarded actions Ignored =
    record { at = λ s. (body_comes class args this actions).at s ∙ acted_next class args this this guarded actions s }

went_comes : (f : Frame) (given : Given) (s : State) → comes (turn_went f given s) ≡ after f (Goes given s)
unfolding after
went_comes (Replying line) given s = (check_comes line (Ok given)).at s
went_comes (DrainingBackup n) given s = (backup_comes n).at s
went_comes (Stepping queue) given s = (pop_comes queue (Ok given)).at s
went_comes (Draining queue elements kept) given s = (drain_comes queue elements kept).at s
went_comes (InBody class args this guarded actions) given s = (body_goes_on class args this guarded actions given).at s
went_comes (CreatingFit local document) given s = fit_went local document given s
went_comes (Upgrading n d) given s = upgrade_went n d given s
went_comes f given s = comes_ended (after f (Goes given s))

threw_comes : (f : Frame) (x : Fault) (s : State) → comes (turn_threw f x s) ≡ after f (Throws x s)
unfolding after
threw_comes (Replying line) x s = (check_comes line (Err x)).at s
threw_comes (Stepping queue) x s = (pop_comes queue (Err x)).at s
threw_comes (InBody class args this true actions) x s = (body_comes class args this actions).at (logged (Caught x) s)
threw_comes (Upgrading n d) x s = upgraded_comes n d (Throws x s)
threw_comes f x s = comes_ended (after f (Throws x s))

-- without the frames below it
pub turn_comes : (f : Frame) (end : WaitEnd) (s : State) → comes (turn f end s) ≡ after f (outcome_of end s)
unfolding turn
turn_comes f (Went given) s = went_comes f given s
turn_comes f (Threw x) s = threw_comes f x s
turn_comes f Over s = comes_ended (Spent s) ∙ sym (after_spent f s)

pub comes_is : (t : Turned) → rest t.pushed (outcome_of t.end t.state) ≡ comes t
unfolding comes
comes_is t = refl

-- with them
pub turn_leaves : (frames : List Frame) (f : Frame) (end : WaitEnd) (s : State) → to_come frames (turn f end s) ≡ rest (frames ++ f ∷ []) (outcome_of end s)
turn_leaves frames f end s =
    let t : Turned = turn f end s in
    rest_append frames t.pushed (outcome_of t.end t.state) ∙ ap (rest frames) (comes_is t ∙ turn_comes f end s) ∙ sym (rest_push frames f (outcome_of end s))
