-- The turns of frames are those of the definitions.
use Rattle.std.proofs.Common.{◌≡◌, List, refl, ap, subst, sym}
use Rattle.std.specs.Prelude.{IfOk, Result}
use Rattle.ce_base.specs.declared.fault.Fault.{Fault}
use Rattle.ce_algorithms.specs.declared.given.Given.{Given}
use Rattle.ce_algorithms.specs.State.{State}
use Rattle.ce_algorithms.specs.Steps.{Spent}
use Rattle.ce_frames.specs.Frames.{Frame}
use Rattle.ce_frames.specs.Turned.{Turned, ended}
use Rattle.ce_frames.specs.Turns.{turn, turn_threw, turn_went}
use Rattle.ce_outcomes.specs.declared.came.Came.{Came}
use Rattle.ce_outcomes.specs.declared.came.Came.TheVariants.{Went, Threw, Over}
use Rattle.ce_outcomes.specs.Turns.{Turns, end_of}
use Rattle.ce_outcomes.proofs.TurnLaws.{turns_as, turns_same}

-- where nothing stopped it, it is as another turn that is the same
pub ok_turns_as : {E : Type 0} (r : Result Came E) (frames new : List Frame) (s : State) (t u : Turned) → t ≡ u
    → IfOk r (λ now. Turns frames new now s t) → IfOk r (λ now. Turns frames new now s u)
ok_turns_as r frames new s t u e h = subst (λ (x : Turned). IfOk r (λ now. Turns frames new now s x)) e h

-- a frame goes on

pub resumed_went : (frames new : List Frame) (f : Frame) (end now : Came) (given : Given) (s s1 : State) → end ≡ Went given
    → Turns frames new now s1 (turn_went f given s) → Turns frames new now s1 (turn f (end_of end) s)
unfolding turn
resumed_went frames new f end now given s s1 is h =
    turns_as frames new now s1 (turn_went f given s) (turn f (end_of end) s) (ap (λ e. turn f (end_of e) s) (sym is)) h

pub resumed_threw : (frames new : List Frame) (f : Frame) (end now : Came) (x : Fault) (s s1 : State) → end ≡ Threw x
    → Turns frames new now s1 (turn_threw f x s) → Turns frames new now s1 (turn f (end_of end) s)
unfolding turn
resumed_threw frames new f end now x s s1 is h =
    turns_as frames new now s1 (turn_threw f x s) (turn f (end_of end) s) (ap (λ e. turn f (end_of e) s) (sym is)) h

pub resumed_over : (frames : List Frame) (f : Frame) (end : Came) (s : State) → end ≡ Over → Turns frames frames Over s (turn f (end_of end) s)
unfolding turn
resumed_over frames f end s is =
    turns_as frames frames Over s (ended (Spent s)) (turn f (end_of end) s) (ap (λ e. turn f (end_of e) s) (sym is)) (turns_same frames Over s (Spent s) refl)
