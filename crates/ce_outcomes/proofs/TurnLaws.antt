-- The turns of the code are those of the definitions.
use Rattle.std.proofs.Common.{◌≡◌, List, [], ◌∷◌, ◌++◌, refl, ap, sym, ◌∙◌, subst, append-nil, append_assoc}
use Rattle.ce_algorithms.specs.declared.given.Given.{Given}
use Rattle.ce_algorithms.specs.State.{State}
use Rattle.ce_algorithms.specs.Steps.{Outcome}
use Rattle.ce_frames.specs.Frames.{Frame}
use Rattle.ce_frames.specs.Turned.{Turned, Turn, ended, with_below, below}
use Rattle.ce_outcomes.specs.declared.came.Came.{Came}
use Rattle.ce_outcomes.specs.declared.came.Came.TheVariants.{Went, Threw, Over}
use Rattle.ce_outcomes.specs.Turns.{Turns, came_in}

-- nothing is pushed
pub turns_same : (frames : List Frame) (now : Came) (s : State) (o : Outcome State Given) → came_in now s ≡ o → Turns frames frames now s (ended o)
turns_same frames now s o is = subst (λ x. Turns frames frames now s (ended x)) is (go now)
  where
    go : (now : Came) → Turns frames frames now s (ended (came_in now s))
    go (Went g) = record { frames = sym (append-nil frames); end = refl; state = refl }
    go (Threw f) = record { frames = sym (append-nil frames); end = refl; state = refl }
    go Over = record { frames = sym (append-nil frames); end = refl; state = refl }

-- the same turn, written otherwise
pub turns_as : (frames new : List Frame) (now : Came) (s : State) (t u : Turned) → t ≡ u → Turns frames new now s t → Turns frames new now s u
turns_as frames new now s t u e h = subst (λ x. Turns frames new now s x) e h

-- a frame is pushed below what comes
pub turns_pushed : (frames frames' new : List Frame) (f : Frame) (now : Came) (s : State) (t : Turned) → frames' ≡ frames ++ f ∷ [] → Turns frames' new now s t
    → Turns frames new now s (with_below f t)
turns_pushed frames frames' new f now s t pushed h = record {
  frames = h.frames ∙ ap (λ l. l ++ t.pushed) pushed ∙ append_assoc frames (f ∷ []) t.pushed;
  end = h.end;
  state = h.state;
}

-- a frame is pushed, and then comes a turn
pub turns_below : (frames frames' new : List Frame) (f : Frame) (now : Came) (turn : Turn) (s s1 s2 : State) → frames' ≡ frames ++ f ∷ [] → s1 ≡ s
    → Turns frames' new now s2 (turn s1) → Turns frames new now s2 (below f turn s)
turns_below frames frames' new f now turn s s1 s2 pushed same h =
    turns_pushed frames frames' new f now s2 (turn s) pushed (turns_as frames' new now s2 (turn s1) (turn s) (ap turn same) h)

-- it ends, with no frame pushed
pub turns_ended : (below new : List Frame) (now : Came) (s : State) (o : Outcome State Given) (t : Turned) → new ≡ below → came_in now s ≡ o → ended o ≡ t
    → Turns below new now s t
turns_ended below new now s o t same is e =
    turns_as below new now s (ended o) t e (subst (λ l. Turns below l now s (ended o)) (sym same) (turns_same below now s o is))
