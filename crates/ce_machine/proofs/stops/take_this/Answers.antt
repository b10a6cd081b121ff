use Rattle.std.proofs.Common.{sym, ◌∙◌}
use Rattle.ce_base.specs.declared.fault.Fault.TheVariants.{ReferenceError}
use Rattle.behaviours.specs.Resume.{Throwing}
use Rattle.frame_stack.specs.Sessions.{session}
use Rattle.frame_stack.specs.Stacked.{below_top, frames_of}
use Rattle.ce_machine.specs.Bodies.{based_turn, stopped_turn}
use Rattle.ce_machine.proofs.BaseLaws.{set_before, this_goes_on}
use Rattle.ce_machine.proofs.BodyLaws.{none_goes_on_as, some_lasts_as, some_turns_as}
use Rattle.ce_machine.proofs.stops.take_this.Goals as goal

-- `this` was set before

pub returns-then-is_some-clause-turn : goal.returns-then-is_some-clause-turn
returns-then-is_some-clause-turn c =
    some_turns_as c.in_ok-o.o (below_top (frames_of c.args.stack.now)) (frames_of c.thrown.new.stack) (session c.thrown.new.stack c.thrown.new.state) _ _
    (set_before c.args.stack.now c.requires.body c.args.n c.args.state.now c.this.result c.is_guarded-guarded.result c.this.ensures
    (sym c.is_some.ensures ∙ c.if-is_some.true) c.is_guarded-guarded.ensures) c.in_ok-o.ensures.turn

pub returns-then-is_some-clause-lasts : goal.returns-then-is_some-clause-lasts
returns-then-is_some-clause-lasts c =
    some_lasts_as c.in_ok-o.o c.args.state.now.page.forest _ _
    (set_before c.args.stack.now c.requires.body c.args.n c.args.state.now c.this.result c.is_guarded-guarded.result c.this.ensures
    (sym c.is_some.ensures ∙ c.if-is_some.true) c.is_guarded-guarded.ensures) c.in_ok-o.ensures.lasts

pub returns-then-is_some-clause-on : goal.returns-then-is_some-clause-on
returns-then-is_some-clause-on c =
    none_goes_on_as c.in_ok-o.o c.args.stack.now c.thrown.new.stack c.args.state.now c.thrown.new.state
    (stopped_turn (Throwing ReferenceError c.is_guarded-guarded.result)) (based_turn c.args.n)
    (set_before c.args.stack.now c.requires.body c.args.n c.args.state.now c.this.result c.is_guarded-guarded.result c.this.ensures
    (sym c.is_some.ensures ∙ c.if-is_some.true) c.is_guarded-guarded.ensures) c.in_ok-o.ensures.on

-- it was not

pub returns-clause-on : goal.returns-clause-on
returns-clause-on c = this_goes_on c.args.stack.now c.set_this.new.self c.args.n c.args.state.now c.set_this.ensures c.this.result c.this.ensures
    (sym c.is_some.ensures ∙ c.if-is_some.false) c.requires.node c.requires.paired
