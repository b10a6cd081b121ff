use Rattle.std.specs.Prelude.{ℕ}
use Rattle.std.specs.Bool.{◌==◌}
use Rattle.std.proofs.Common.{ap, subst, ◌∙◌}
use Rattle.reaction_queue.specs.ElementQueues.{is_empty}
use Rattle.ce_frames.specs.Places.{Stands}
use Rattle.frame_stack.specs.Stacked.{Stacked, behaviours_of, frames_of}
use Rattle.frame_stack.proofs.Tops.{empty_seen, one_place, stacked}
use Rattle.frame_stack.proofs.stack.Stack.is_empty.Goals as goal

pub returns-clause-empty : goal.returns-clause-empty
returns-clause-empty c =
    c.is_empty.ensures ∙ ap (λ (n : ℕ). n == 0) c.self.inside.frames.ok.0 ∙ empty_seen (stacked c.self.inside.homes c.self.inside.frames.items)
    ∙ ap (λ (s : Stacked). is_empty (frames_of s)) c.self.view_is

pub returns-clause-one_place : goal.returns-clause-one_place
returns-clause-one_place c =
    subst (λ (s : Stacked). Stands s.homes s.frames (behaviours_of s)) c.self.view_is
    (one_place (stacked c.self.inside.homes c.self.inside.frames.items) c.self.invariant.placed)
