use Rattle.std.proofs.Common.{ap, sym, ◌∙◌, arith}
use Rattle.frame_stack.specs.Stacked.{Stacked, behaviours_of, below_top, frames_of}
use Rattle.frame_stack.proofs.BodyCalls.{Leaves, falls, falls_leaves, falls_room, gone}
use Rattle.frame_stack.proofs.Tops.{has_frame, no_other, stacked}
use Rattle.frame_stack.proofs.stack.Stack.end.Goals as goal

pub unreachable-requires : goal.unreachable-requires
unreachable-requires c =
    let some = has_frame c.self.inside.homes c.self.inside.frames.items c.args.self.now c.self.view_is c.requires in
    let none = c.in-None.ensures.cases.0 in
    let kept = c.self.inside.frames.ok.0 in
    absurd (omega (arith, some, none, kept))

pub unreachable-requires-then-not-is_body : goal.unreachable-requires-then-not-is_body
unreachable-requires-then-not-is_body c =
    no_other c.self.inside.homes c.self.inside.frames.items c.pop.new.self.items c.in-Some.f c.args.self.now c.self.view_is c.requires c.in-Some.ensures.items
    c.is_body.ensures.plain (sym c.if-not-is_body.ensures.body)

-- without a behaviour

leaves_none : (c : goal.In-None-held)
    → Leaves c.self.inside.homes c.self.inside.chains.items c.pop.new.self.items (stacked c.self.inside.homes c.self.inside.frames.items)
leaves_none c = gone c.self.inside.homes c.self.inside.chains.items c.self.inside.frames.items c.pop.new.self.items c.in-Some.f c.into_held-class.result.1
    c.self.invariant c.in-Some.ensures.items (sym c.if-not-is_body.ensures.body) c.into_held-class.ensures.held c.in-None-held.is

pub invariant_of-self : goal.invariant_of-self
invariant_of-self c = (leaves_none c).order

pub returns-in-None-held-clause-frames : goal.returns-in-None-held-clause-frames
returns-in-None-held-clause-frames c = (leaves_none c).frames ∙ ap (λ (s : Stacked). below_top (frames_of s)) c.self.view_is

pub returns-in-None-held-clause-behaviours : goal.returns-in-None-held-clause-behaviours
returns-in-None-held-clause-behaviours c = (leaves_none c).behaviours ∙ ap behaviours_of c.self.view_is

-- with one

pub unlink-requires : goal.unlink-requires
unlink-requires c =
    let within = (falls c.self.inside.homes c.self.inside.chains.items c.self.inside.frames.items c.pop.new.self.items c.in-Some.f c.into_held-class.result.0
    c.into_held-class.result.1 c.in-Some-held.b c.self.invariant c.in-Some.ensures.items
    (sym c.if-not-is_body.ensures.body) c.into_held-class.ensures.class c.into_held-class.ensures.held c.in-Some-held.is).within in
    let each = c.self.invariant.chained.each in
    let kept = c.self.inside.chains.ok.0 in
    omega (arith, within, each, kept)

pub move_down-requires : goal.move_down-requires
move_down-requires c =
    falls_room c.self.inside.homes c.self.inside.chains.items c.pop.new.self.items
    (stacked c.self.inside.homes c.self.inside.frames.items) c.into_held-class.result.0 c.in-Some-held.b
    (falls c.self.inside.homes c.self.inside.chains.items c.self.inside.frames.items c.pop.new.self.items c.in-Some.f c.into_held-class.result.0
    c.into_held-class.result.1 c.in-Some-held.b c.self.invariant c.in-Some.ensures.items
    (sym c.if-not-is_body.ensures.body) c.into_held-class.ensures.class c.into_held-class.ensures.held c.in-Some-held.is) c.unlink.new.chains.items
    c.topmost-below.result c.unlink.ensures c.topmost-below.ensures c.pop.new.self.len c.pop.new.self.ok.0

leaves_some : (c : goal.After-move_down)
    → Leaves c.move_down.new.homes c.unlink.new.chains.items c.move_down.new.frames.items (stacked c.self.inside.homes c.self.inside.frames.items)
leaves_some c = falls_leaves c.self.inside.homes c.self.inside.chains.items c.pop.new.self.items
    (stacked c.self.inside.homes c.self.inside.frames.items) c.into_held-class.result.0 c.in-Some-held.b
    (falls c.self.inside.homes c.self.inside.chains.items c.self.inside.frames.items c.pop.new.self.items c.in-Some.f c.into_held-class.result.0
    c.into_held-class.result.1 c.in-Some-held.b c.self.invariant c.in-Some.ensures.items
    (sym c.if-not-is_body.ensures.body) c.into_held-class.ensures.class c.into_held-class.ensures.held c.in-Some-held.is) c.unlink.new.chains.items
    c.topmost-below.result c.unlink.ensures c.topmost-below.ensures c.move_down.new.homes c.move_down.new.frames.items c.move_down.ensures.homes
    c.move_down.ensures.frames

pub invariant_of-self-in-Some-held : goal.invariant_of-self-in-Some-held
invariant_of-self-in-Some-held c = (leaves_some c).order

pub returns-in-Some-held-clause-frames : goal.returns-in-Some-held-clause-frames
returns-in-Some-held-clause-frames c = (leaves_some c).frames ∙ ap (λ (s : Stacked). below_top (frames_of s)) c.self.view_is

pub returns-in-Some-held-clause-behaviours : goal.returns-in-Some-held-clause-behaviours
returns-in-Some-held-clause-behaviours c = (leaves_some c).behaviours ∙ ap behaviours_of c.self.view_is
