use Rattle.std.proofs.Common.{◌-◌, ◌∙◌, sym, arith}
use Rattle.frame_stack.proofs.BodyCalls.{changed_order, has_resumed, has_spent, has_stopped}
use Rattle.frame_stack.proofs.Tops.{at_top, has_frame, no_other}
use Rattle.frame_stack.proofs.stack.Stack.resume.Goals as goal

pub overflow_sub-last : goal.overflow_sub-last
overflow_sub-last c =
    let some = has_frame c.self.inside.homes c.self.inside.frames.items c.args.self.now c.self.view_is c.requires in
    let many = c.len-last.ensures in
    let kept = c.self.inside.frames.ok.0 in
    omega (arith, some, many, kept)

pub index_mut-f-requires : goal.index_mut-f-requires
index_mut-f-requires c =
    let some = has_frame c.self.inside.homes c.self.inside.frames.items c.args.self.now c.self.view_is c.requires in
    let many = c.len-last.ensures in
    let kept = c.self.inside.frames.ok.0 in
    omega (arith, some, many, kept)

pub unreachable-requires : goal.unreachable-requires
unreachable-requires c =
    let top = (at_top c.self.inside.frames.items c.len-last.result c.index_mut-f.result.now
    (has_frame c.self.inside.homes c.self.inside.frames.items c.args.self.now c.self.view_is c.requires)
    (c.len-last.ensures ∙ c.self.inside.frames.ok.0) c.index_mut-f.ensures.value) in
    no_other c.self.inside.homes c.self.inside.frames.items top.front c.index_mut-f.result.now c.args.self.now c.self.view_is c.requires top.is
    c.is_body.ensures.plain (sym c.if-not-is_body.ensures.body)

pub invariant_of-self : goal.invariant_of-self
invariant_of-self c = changed_order c.self.inside.homes c.self.inside.chains.items c.self.inside.frames.items
    (c.len-last.result - 1) c.index_mut-f.result.now c.resume.new.self c.args.fuel.now c.resume.new.fuel c.args.self.now c.self.view_is c.self.invariant
    (at_top c.self.inside.frames.items c.len-last.result c.index_mut-f.result.now
    (has_frame c.self.inside.homes c.self.inside.frames.items c.args.self.now c.self.view_is c.requires)
    (c.len-last.ensures ∙ c.self.inside.frames.ok.0) c.index_mut-f.ensures.value) c.resume.ensures.same

pub returns-clause-resumed : goal.returns-clause-resumed
returns-clause-resumed c = has_resumed c.self.inside.homes c.self.inside.chains.items c.self.inside.frames.items
    (c.len-last.result - 1) c.index_mut-f.result.now c.resume.new.self c.args.fuel.now c.resume.new.fuel c.args.self.now c.self.view_is c.self.invariant
    (at_top c.self.inside.frames.items c.len-last.result c.index_mut-f.result.now
    (has_frame c.self.inside.homes c.self.inside.frames.items c.args.self.now c.self.view_is c.requires)
    (c.len-last.ensures ∙ c.self.inside.frames.ok.0) c.index_mut-f.ensures.value) c.resume.result c.resume.ensures.resumed

pub returns-clause-action : goal.returns-clause-action
returns-clause-action c = has_stopped c.self.inside.homes c.self.inside.chains.items c.self.inside.frames.items
    (c.len-last.result - 1) c.index_mut-f.result.now c.resume.new.self c.args.fuel.now c.resume.new.fuel c.args.self.now c.self.view_is c.self.invariant
    (at_top c.self.inside.frames.items c.len-last.result c.index_mut-f.result.now
    (has_frame c.self.inside.homes c.self.inside.frames.items c.args.self.now c.self.view_is c.requires)
    (c.len-last.ensures ∙ c.self.inside.frames.ok.0) c.index_mut-f.ensures.value) c.resume.result c.resume.ensures.resumed

pub returns-clause-spent : goal.returns-clause-spent
returns-clause-spent c = has_spent c.self.inside.homes c.self.inside.chains.items c.self.inside.frames.items
    (c.len-last.result - 1) c.index_mut-f.result.now c.resume.new.self c.args.fuel.now c.resume.new.fuel c.args.self.now c.self.view_is c.self.invariant
    (at_top c.self.inside.frames.items c.len-last.result c.index_mut-f.result.now
    (has_frame c.self.inside.homes c.self.inside.frames.items c.args.self.now c.self.view_is c.requires)
    (c.len-last.ensures ∙ c.self.inside.frames.ok.0) c.index_mut-f.ensures.value) c.resume.result c.resume.ensures.resumed
