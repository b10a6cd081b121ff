use Rattle.std.proofs.Common.{◌≡◌, ◌++◌, ◌∷◌, [], None, false, ap, ◌∙◌, arith}
use Rattle.ce_frames.specs.Frames.{InBody}
use Rattle.ce_frames.specs.Places.{Held, Body}
use Rattle.body_frames.specs.Kept.{first_place}
use Rattle.frame_stack.specs.Stacked.{Stacked, actions_at, behaviours_of, frames_of}
use Rattle.frame_stack.proofs.BodyCalls.{Begins, known_begun, known_there, unknown_begun}
use Rattle.frame_stack.proofs.Tops.{stacked}
use Rattle.frame_stack.proofs.stack.Stack.begin.Goals as goal

-- of a class that is not there

pushed_unknown : (c : goal.Then-class-len)
    → c.push.new.self.items ≡ c.self.inside.frames.items ++ Body c.args.class (first_place c.args.call c.args.args c.args.this) None ∷ []
pushed_unknown c = c.in_ok-push.ensures.items ∙ ap (λ (f : Held). c.self.inside.frames.items ++ f ∷ []) c.body.ensures

begun_unknown : (c : goal.Then-class-len)
    → Begins c.self.inside.homes c.self.inside.chains.items c.push.new.self.items
    (stacked c.self.inside.homes c.self.inside.frames.items) c.args.class c.args.call c.args.args c.args.this
begun_unknown c =
    let past = c.if-class-len.true in
    let many = c.len.ensures in
    let class = c.class.view_is in
    let each = c.self.invariant.chained.each in
    let kept = c.self.inside.chains.ok.0 in
    unknown_begun c.self.inside.homes c.self.inside.chains.items c.self.inside.frames.items c.args.class c.args.call c.args.args c.args.this c.self.invariant
    c.push.new.self.items (pushed_unknown c) (omega (arith, past, many, class, each, kept))

pub invariant_of-self-then-class-len : goal.invariant_of-self-then-class-len
invariant_of-self-then-class-len c = (begun_unknown c).order

pub returns-then-class-len-clause-frames : goal.returns-then-class-len-clause-frames
returns-then-class-len-clause-frames c =
    (begun_unknown c).frames ∙ ap (λ (s : Stacked). frames_of s ++ InBody c.args.class c.args.args c.args.this false
    (actions_at c.args.call c.args.class (behaviours_of s)) ∷ []) c.self.view_is

pub returns-then-class-len-clause-behaviours : goal.returns-then-class-len-clause-behaviours
returns-then-class-len-clause-behaviours c = (begun_unknown c).behaviours ∙ ap behaviours_of c.self.view_is

-- of a class that is there

pub move_up-requires-clause-below : goal.move_up-requires-clause-below
move_up-requires-clause-below c =
    let past = c.if-class-len.false in
    let many = c.len.ensures in
    let class = c.class.view_is in
    let each = c.self.invariant.chained.each in
    let kept = c.self.inside.chains.ok.0 in
    known_there c.self.inside.homes c.self.inside.chains.items c.self.inside.frames.items c.args.class c.args.call c.args.args c.args.this c.self.invariant
    c.push.new.self.items (c.in_ok-push.ensures.items ∙ ap (λ (f : Held). c.self.inside.frames.items ++ f ∷ []) c.body.ensures) c.topmost-below.result
    c.push.new.self.len (omega (arith, past, many, class, each, kept)) c.topmost-below.ensures c.push.new.self.ok.0

begun_known : (c : goal.After-move_up)
    → Begins c.move_up.new.homes c.link.new.chains.items c.move_up.new.frames.items
    (stacked c.self.inside.homes c.self.inside.frames.items) c.args.class c.args.call c.args.args c.args.this
begun_known c =
    let past = c.if-class-len.false in
    let many = c.len.ensures in
    let class = c.class.view_is in
    let each = c.self.invariant.chained.each in
    let kept = c.self.inside.chains.ok.0 in
    known_begun c.self.inside.homes c.self.inside.chains.items c.self.inside.frames.items c.args.class c.args.call c.args.args c.args.this c.self.invariant
    c.push.new.self.items (c.in_ok-push.ensures.items ∙ ap (λ (f : Held). c.self.inside.frames.items ++ f ∷ []) c.body.ensures) c.topmost-below.result
    c.len-index.result c.move_up.new.homes c.link.new.chains.items c.move_up.new.frames.items
    (omega (arith, past, many, class, each, kept)) c.topmost-below.ensures
    (c.len-index.ensures ∙ c.self.inside.frames.ok.0) c.move_up.ensures.homes c.in-Ok.ensures.linked c.move_up.ensures.frames

pub invariant_of-self-in-Ok : goal.invariant_of-self-in-Ok
invariant_of-self-in-Ok c = (begun_known c).order

pub returns-in-Ok-clause-frames : goal.returns-in-Ok-clause-frames
returns-in-Ok-clause-frames c =
    (begun_known c).frames ∙ ap (λ (s : Stacked). frames_of s ++ InBody c.args.class c.args.args c.args.this false
    (actions_at c.args.call c.args.class (behaviours_of s)) ∷ []) c.self.view_is

pub returns-in-Ok-clause-behaviours : goal.returns-in-Ok-clause-behaviours
returns-in-Ok-clause-behaviours c = (begun_known c).behaviours ∙ ap behaviours_of c.self.view_is
