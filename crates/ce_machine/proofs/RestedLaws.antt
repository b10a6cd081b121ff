-- Between two lines each behaviour is at home.
use Rattle.std.proofs.Common.{◌≡◌, List, [], ◌∷◌, Some, length, refl, ap, ◌∙◌, subst, arith}
use Rattle.std.specs.Prelude.{map}
use Rattle.ce_algorithms.specs.State.{Class, State}
use Rattle.ce_frames.specs.Places.{Behaviour, Held, Homes, Stands}
use Rattle.ce_frames.specs.Whole.{joined}
use Rattle.ce_frames.proofs.Moves.{all_home}
use Rattle.frame_stack.specs.Sessions.{session}
use Rattle.frame_stack.specs.Stacked.{Stacked, behaviours_of}
use Rattle.ce_machine.specs.Ended.{IsAtRest}
use Rattle.ce_machine.specs.Rested.{AreAtHome}

-- each class remembers what its behaviour remembers
memories_joined : (cs : List Class) (bs : List Behaviour) → length cs ≡ length bs
    → map (λ (c : Class). c.memory) (joined cs bs) ≡ map (λ (b : Behaviour). b.memory) bs
memories_joined [] [] h = refl
memories_joined [] (b ∷ bs) h = absurd (omega arith)
memories_joined (c ∷ cs) [] h = absurd (omega arith)
memories_joined (c ∷ cs) (b ∷ bs) h = ap (λ ms. b.memory ∷ ms) (memories_joined cs bs (omega arith))

pub all_at_home : (stack : Stacked) (s : State) → IsAtRest stack s → Stands stack.homes stack.frames (behaviours_of stack)
    → AreAtHome (record { session = session stack s; stack = stack })
all_at_home stack s rest stands =
    let bs = behaviours_of stack in
    let none : stack.frames ≡ [] = rest.frames in
    let homes : stack.homes ≡ map Some bs = all_home stack.homes bs (subst (λ (fs : List Held). Stands stack.homes fs bs) none stands) in
    let with_homes : Homes → List Held → Stacked = λ h fs. record { homes = h; frames = fs } in
    record {
      home = ap (λ h. with_homes h stack.frames) homes ∙ ap (with_homes (map Some bs)) none;
      memories = memories_joined s.classes bs rest.paired;
    }
