use Rattle.std.specs.Prelude.{◌<◌, length}
use Rattle.std.proofs.Common.{ap, sym, subst, ◌∙◌, append-nil}
use Rattle.frame_stack.specs.Frames.{waiting_of}
use Rattle.frame_stack.specs.Stacked.{Stacked, HasBody, behaviours_of, frames_of}
use Rattle.frame_stack.proofs.PushLaws.{body_on_top}
use Rattle.frame_stack.proofs.Tops.{no_body_taken, stacked, taken_behaviours, taken_frames, taken_order}
use Rattle.frame_stack.proofs.stack.Stack.pop.Goals as goal
use Rattle.frame_stack.proofs.stack.Stack.pop.Goals.{in-None, in-Some}

pub returns-then-not-is_waiting_on_top-clause-body : goal.returns-then-not-is_waiting_on_top-clause-body
returns-then-not-is_waiting_on_top-clause-body c =
    subst (λ (s : Stacked). 0 < length (frames_of s) → HasBody (frames_of s)) c.self.view_is
    (body_on_top c.self.inside.homes c.self.inside.chains.items c.self.inside.frames.items c.self.invariant (sym c.if-not-is_waiting_on_top.ensures))

pub into_waiting-requires : goal.into_waiting-requires
into_waiting-requires c = no_body_taken c.self.inside.homes c.self.inside.frames.items c.pop.new.self.items c.in-Some.f c.in-Some.ensures.items
    (sym c.if-not-is_waiting_on_top.ensures)

pub invariant_of-self : goal.invariant_of-self
invariant_of-self c = taken_order c.self.inside.homes c.self.inside.chains.items c.self.inside.frames.items c.pop.new.self.items c.pop.result c.self.invariant
    c.pop.ensures.items (sym c.if-not-is_waiting_on_top.ensures)

pub returns-clause-frames : goal.returns-clause-frames
returns-clause-frames c = elim c.match-pop.branch [
  | in-None w ↦ rw w.result-is (ap (stacked c.self.inside.homes) (sym (w.in-None.ensures.items ∙ append-nil c.pop.new.self.items)) ∙ c.self.view_is)
  | in-Some w ↦ rw w.result-is (ap frames_of (sym c.self.view_is)
      ∙ taken_frames c.self.inside.homes c.self.inside.chains.items c.self.inside.frames.items c.pop.new.self.items w.in-Some.f
      (waiting_of w.into_waiting.result) c.self.invariant w.in-Some.ensures.items w.into_waiting.ensures)
]

pub returns-clause-behaviours : goal.returns-clause-behaviours
returns-clause-behaviours c =
    taken_behaviours c.self.inside.homes c.self.inside.chains.items c.self.inside.frames.items c.pop.new.self.items c.pop.result c.self.invariant
    c.pop.ensures.items (sym c.if-not-is_waiting_on_top.ensures)
    ∙ ap behaviours_of c.self.view_is
