-- What a turn comes to: what the frames that it pushed still do. One lemma for each way to make a turn.
use Rattle.std.proofs.Common.{◌≡◌, Bool, true, false, refl, ap, sym, ◌∙◌}
use Rattle.std.specs.Prelude.{if◌then◌else◌}
use Rattle.ce_algorithms.specs.declared.given.Given.{Given}
use Rattle.ce_algorithms.specs.Steps.{Step, Outcome, Goes, Throws, Spent, then_do, when}
use Rattle.ce_algorithms.specs.State.{State}
use Rattle.ce_frames.specs.Frames.{Frame}
use Rattle.ce_frames.specs.Handing.{nothing}
use Rattle.ce_frames.specs.After.{after}
use Rattle.ce_frames.specs.Rest.{rest, outcome_of}
use Rattle.ce_frames.specs.Turned.{Turned, Turn, ended, turn_after, ◌>>=◌, hand_down, with_below, below, when_turn}
use Rattle.ce_frames.proofs.Joins.{then_assoc}

unfoldable pub comes : Turned → Outcome State Given
comes t = rest t.pushed (outcome_of t.end t.state)

-- a turn comes to what a step comes to
pub record Comes (turn : Turn) (step : Step State Given) : Type 0 where
  pub at : (s : State) → comes (turn s) ≡ step s

pub comes_ended : (o : Outcome State Given) → comes (ended o) ≡ o
unfolding comes rest
comes_ended (Goes given s) = refl
comes_ended (Throws f s) = refl
comes_ended (Spent s) = refl

pub comes_down : (step : Step State Given) → Comes (hand_down step) step
comes_down step = record { at = λ s. comes_ended (step s) }

pub comes_with_below : (f : Frame) (t : Turned) → comes (with_below f t) ≡ after f (comes t)
unfolding comes rest
comes_with_below f t = refl

-- a frame, and what it does after the turn above it
pub comes_below : (f : Frame) {turn : Turn} {step whole : Step State Given} → Comes turn step → ((s : State) → after f (step s) ≡ whole s)
    → Comes (below f turn) whole
comes_below f {turn} h after_is = record { at = λ s. comes_with_below f (turn s) ∙ ap (after f) (h.at s) ∙ after_is s }

-- behind an outcome
pub comes_after : {A : Type 0} {k : A → Turn} {l : A → Step State Given} (o : Outcome State A) → ((a : A) → Comes (k a) (l a))
    → comes (turn_after o k) ≡ then_do o l
comes_after (Goes a s) h = (h a).at s
comes_after (Throws f s) h = comes_ended (Throws f s)
comes_after (Spent s) h = comes_ended (Spent s)

-- behind a step
pub comes_bind : {A : Type 0} {k : A → Turn} (f : Step State A) (l : A → Step State Given) → ((a : A) → Comes (k a) (l a))
    → Comes (f >>= k) (λ s. then_do (f s) l)
comes_bind f l h = record { at = λ s. comes_after (f s) h }

-- behind a step, where more comes behind its next steps
pub comes_then : {A B : Type 0} {k : A → Turn} (f : Step State A) (l : A → Step State B) (w : B → Step State Given)
    → ((a : A) → Comes (k a) (λ s. then_do (l a s) w)) → Comes (f >>= k) (λ s. then_do (then_do (f s) l) w)
comes_then f l w h = record { at = λ s. comes_after (f s) h ∙ sym (then_assoc (f s) l w) }

-- one turn or another, by a test by which the algorithm goes too
pub comes_if : {A : Type 0} {f g : Turn} {p q : Step State A} (test : Bool) (c : Outcome State A → Outcome State Given) → Comes f (λ s. c (p s))
    → Comes g (λ s. c (q s)) → Comes (if test then f else g) (λ s. c ((if test then p else q) s))
comes_if true c h k = h
comes_if false c h k = k

pub comes_when : {turn : Turn} (step : Step State (Unit {0})) (test : Bool) → Comes turn (λ s. nothing (step s))
    → Comes (when_turn test turn) (λ s. nothing (when test step s))
comes_when step true h = h
comes_when step false h = comes_down _
