-- Turns and steps that read nothing of what classes do and remember are those of the whole session.
use Rattle.std.proofs.Common.{◌≡◌, List, length, refl, ap, sym, ◌∙◌, subst}
use Rattle.ce_base.specs.declared.fault.Fault.{Fault}
use Rattle.node_trees.specs.Trees.{Trees}
use Rattle.ce_algorithms.specs.State.{State}
use Rattle.ce_algorithms.specs.Steps.{Step, Goes, Throws, Spent}
use Rattle.ce_frames.specs.Frames.{Frame}
use Rattle.ce_frames.specs.Places.{Behaviour}
use Rattle.ce_frames.specs.Turned.{Turn, Turned}
use Rattle.ce_frames.specs.Whole.{IsBlind, IsBlindTurn, whole, whole_in, whole_turned}
use Rattle.frame_stack.specs.Sessions.{ArePaired, session}
use Rattle.frame_stack.specs.Stacked.{Stacked, behaviours_of}
use Rattle.ce_outcomes.specs.declared.came.Came.{Came}
use Rattle.ce_reactions.specs.Blind.{BlindAt}
use Rattle.ce_outcomes.specs.Placed.{Lasts}
use Rattle.ce_outcomes.specs.Turns.{Turns}
use Rattle.ce_outcomes.proofs.TurnLaws.{turns_as}

-- the same behaviours, and the same state
pub session_is : (old new : Stacked) (s t : State) → behaviours_of new ≡ behaviours_of old → s ≡ t → session new s ≡ session old t
session_is old new s t same is = ap (λ (bs : List Behaviour). whole bs s) same ∙ ap (whole (behaviours_of old)) is

pub paired_is : (old new : Stacked) (s t : State) → behaviours_of new ≡ behaviours_of old → length t.classes ≡ length s.classes → ArePaired old s
    → ArePaired new t
paired_is old new s t same count paired = count ∙ paired ∙ sym (ap length same)

-- in each state

pub blind_at : (t : Turn) → IsBlindTurn t → (s : State) → BlindAt t s
blind_at t b s = record { same = λ bs. b.same bs s; classes = b.classes s }

-- in one state

-- the same turn, written otherwise
pub as_at : (t u : Turn) (s : State) → ((bs : List Behaviour) → t (whole bs s) ≡ u (whole bs s)) → t s ≡ u s → BlindAt t s → BlindAt u s
as_at t u s each is h = record {
  same = λ bs. sym (each bs) ∙ h.same bs ∙ ap (whole_turned bs) is;
  classes = ap (λ (x : Turned). length x.state.classes) (sym is) ∙ h.classes;
}

-- of the whole session

pub lifted : (t : Turn) (old new : Stacked) (under frames : List Frame) (now : Came) (s s1 : State) → BlindAt t s → Turns under frames now s1 (t s)
    → behaviours_of new ≡ behaviours_of old → Turns under frames now (session new s1) (t (session old s))
lifted t old new under frames now s s1 b h same =
    turns_as under frames now (session new s1) (whole_turned (behaviours_of old) (t s)) (t (session old s)) (sym (b.same (behaviours_of old)))
    (record { frames = h.frames; end = h.end; state = session_is old new s1 (t s).state same h.state })

pub lifted_paired : (t : Turn) (old new : Stacked) (under frames : List Frame) (now : Came) (s s1 : State) → BlindAt t s → Turns under frames now s1 (t s)
    → behaviours_of new ≡ behaviours_of old → ArePaired old s → ArePaired new s1
lifted_paired t old new under frames now s s1 b h same paired = paired_is old new s s1 same (ap (λ (x : State). length x.classes) h.state ∙ b.classes) paired

pub lifted_lasts : (t : Turn) (old : Stacked) (F : Trees) (s : State) → BlindAt t s → Lasts F (t s) → Lasts F (t (session old s))
lifted_lasts t old F s b h = subst (Lasts F) (sym (b.same (behaviours_of old))) (record { grows = h.grows; gives = h.gives; placed = h.placed })

-- steps of the whole session

pub goes_whole : {A : Type 0} (step : Step State A) (old new : Stacked) (a : A) (s s1 : State) → IsBlind step → behaviours_of new ≡ behaviours_of old
    → Goes a s1 ≡ step s → Goes a (session new s1) ≡ step (session old s)
goes_whole step old new a s s1 b same is = ap (λ (t : State). Goes a t) (session_is old new s1 s1 same refl) ∙ ap (whole_in (behaviours_of old)) is
    ∙ sym (b.same (behaviours_of old) s)

pub throws_whole : {A : Type 0} (step : Step State A) (old : Stacked) (f : Fault) (s s1 : State) → IsBlind step → Throws f s1 ≡ step s
    → Throws f (session old s1) ≡ step (session old s)
throws_whole step old f s s1 b is = ap (whole_in (behaviours_of old)) is ∙ sym (b.same (behaviours_of old) s)

pub spent_whole : {A : Type 0} (step : Step State A) (old : Stacked) (s s1 : State) → IsBlind step → Spent s1 ≡ step s
    → Spent (session old s1) ≡ step (session old s)
spent_whole step old s s1 b is = ap (whole_in (behaviours_of old)) is ∙ sym (b.same (behaviours_of old) s)
