use Rattle.std.specs.Prelude.{◌≡◌, ◌++◌, ◌∷◌, [], List, ℕ, Some}
use Rattle.std.proofs.Common.{ap, sym, subst, ◌∙◌}
use Rattle.ce_frames.specs.Places.{Homes}
use Rattle.behaviours.specs.Behaviours.{new_behaviour}
use Rattle.frame_stack.specs.Order.{AreInOrder}
use Rattle.frame_stack.specs.Stacked.{Stacked, behaviours_of}
use Rattle.frame_stack.proofs.ClassLaws.{add_behaviours, add_order}
use Rattle.frame_stack.proofs.Tops.{stacked}
use Rattle.frame_stack.proofs.stack.Stack.add_class.Goals as goal

empty : (c : goal.In-Ok) → c.self.inside.frames.items ≡ []
empty c = ap (λ (s : Stacked). s.frames) c.self.view_is ∙ c.requires

chains_are : (c : goal.In-Ok) → c.push.new.self.items ≡ c.self.inside.chains.items ++ [] ∷ []
chains_are c = c.in_ok-push.ensures.items ∙ ap (λ (l : List ℕ). c.self.inside.chains.items ++ l ∷ []) c.make.ensures

pub invariant_of-self-in-Ok : goal.invariant_of-self-in-Ok
invariant_of-self-in-Ok c =
    subst (λ (h : Homes). AreInOrder h c.push.new.self.items c.self.inside.frames.items) (sym c.in-Ok.ensures.added)
    (subst (λ (l : List (List ℕ)). AreInOrder (c.self.inside.homes ++ Some new_behaviour ∷ []) l c.self.inside.frames.items) (sym (chains_are c))
    (add_order c.self.inside.homes c.self.inside.chains.items c.self.inside.frames.items c.self.invariant (empty c)))

pub returns-in-Ok-clause-behaviours : goal.returns-in-Ok-clause-behaviours
returns-in-Ok-clause-behaviours c =
    ap (λ (h : Homes). behaviours_of (stacked h c.self.inside.frames.items)) c.in-Ok.ensures.added
    ∙ add_behaviours c.self.inside.homes c.self.inside.chains.items c.self.inside.frames.items c.self.invariant (empty c)
    ∙ ap (λ (s : Stacked). behaviours_of s ++ new_behaviour ∷ []) c.self.view_is
