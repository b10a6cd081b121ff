use Rattle.std.proofs.Common.{◌-◌, ◌∙◌, sym, arith}
use Rattle.frame_stack.proofs.ThisLaws.{sets_this, this_order}
use Rattle.frame_stack.proofs.Tops.{at_top, has_frame, no_other}
use Rattle.frame_stack.proofs.stack.Stack.set_this.Goals as goal

pub overflow_sub-last : goal.overflow_sub-last
overflow_sub-last c =
    let some = has_frame c.self.inside.homes c.self.inside.frames.items c.args.self.now c.self.view_is c.requires in
    let many = c.len-last.ensures in
    let kept = c.self.inside.frames.ok.0 in
    omega (arith, some, many, kept)

pub index_mut-f-requires : goal.index_mut-f-requires
index_mut-f-requires c =
    let some = has_frame c.self.inside.homes c.self.inside.frames.items c.args.self.now c.self.view_is c.requires in
    let many = c.len-last.ensures in
    let kept = c.self.inside.frames.ok.0 in
    omega (arith, some, many, kept)

pub unreachable-requires : goal.unreachable-requires
unreachable-requires c =
    let top = (at_top c.self.inside.frames.items c.len-last.result c.index_mut-f.result.now
    (has_frame c.self.inside.homes c.self.inside.frames.items c.args.self.now c.self.view_is c.requires)
    (c.len-last.ensures ∙ c.self.inside.frames.ok.0) c.index_mut-f.ensures.value) in
    no_other c.self.inside.homes c.self.inside.frames.items top.front c.index_mut-f.result.now c.args.self.now c.self.view_is c.requires top.is
    c.is_body.ensures.plain (sym c.if-not-is_body.ensures.body)

pub invariant_of-self : goal.invariant_of-self
invariant_of-self c = this_order c.self.inside.homes c.self.inside.chains.items c.self.inside.frames.items
    (c.len-last.result - 1) c.index_mut-f.result.now c.set_this.new.self c.args.n c.args.self.now c.self.view_is c.self.invariant
    (at_top c.self.inside.frames.items c.len-last.result c.index_mut-f.result.now
    (has_frame c.self.inside.homes c.self.inside.frames.items c.args.self.now c.self.view_is c.requires)
    (c.len-last.ensures ∙ c.self.inside.frames.ok.0) c.index_mut-f.ensures.value) c.set_this.ensures

pub returns : goal.returns
returns c = sets_this c.self.inside.homes c.self.inside.chains.items c.self.inside.frames.items
    (c.len-last.result - 1) c.index_mut-f.result.now c.set_this.new.self c.args.n c.args.self.now c.self.view_is c.self.invariant
    (at_top c.self.inside.frames.items c.len-last.result c.index_mut-f.result.now
    (has_frame c.self.inside.homes c.self.inside.frames.items c.args.self.now c.self.view_is c.requires)
    (c.len-last.ensures ∙ c.self.inside.frames.ok.0) c.index_mut-f.ensures.value) c.set_this.ensures (sym c.if-not-is_body.ensures.body)
