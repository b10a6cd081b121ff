use Rattle.std.specs.Prelude.{◌≡◌, ◌++◌, ◌∷◌, [], List}
use Rattle.std.proofs.Common.{ap, sym, subst, ◌∙◌}
use Rattle.ce_frames.specs.Places.{Held, Wait}
use Rattle.frame_stack.specs.Frames.{waiting_of}
use Rattle.frame_stack.specs.Order.{AreInOrder}
use Rattle.frame_stack.specs.Stacked.{Stacked, behaviours_of, frames_of}
use Rattle.frame_stack.proofs.PushLaws.{push_behaviours, push_frames, push_order}
use Rattle.frame_stack.proofs.Tops.{stacked}
use Rattle.frame_stack.proofs.stack.Stack.push.Goals as goal

pushed : (c : goal.In_ok-push) → c.push.new.self.items ≡ c.self.inside.frames.items ++ Wait (waiting_of c.args.w) ∷ []
pushed c = c.in_ok-push.ensures.items ∙ ap (λ (f : Held). c.self.inside.frames.items ++ f ∷ []) c.wait.ensures

pub invariant_of-self-2 : goal.invariant_of-self-2
invariant_of-self-2 c =
    subst (AreInOrder c.self.inside.homes c.self.inside.chains.items) (sym (pushed c))
    (push_order c.self.inside.homes c.self.inside.chains.items c.self.inside.frames.items (waiting_of c.args.w) c.self.invariant)

pub returns-clause-frames : goal.returns-clause-frames
returns-clause-frames c =
    ap (λ (l : List Held). frames_of (stacked c.self.inside.homes l)) (pushed c)
    ∙ push_frames c.self.inside.homes c.self.inside.chains.items c.self.inside.frames.items (waiting_of c.args.w) c.self.invariant
    ∙ ap (λ (s : Stacked). frames_of s ++ waiting_of c.args.w ∷ []) c.self.view_is

pub returns-clause-behaviours : goal.returns-clause-behaviours
returns-clause-behaviours c =
    ap (λ (l : List Held). behaviours_of (stacked c.self.inside.homes l)) (pushed c)
    ∙ push_behaviours c.self.inside.homes c.self.inside.chains.items c.self.inside.frames.items (waiting_of c.args.w) c.self.invariant
    ∙ ap behaviours_of c.self.view_is
