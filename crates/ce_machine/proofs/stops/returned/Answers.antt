use Rattle.std.proofs.Common.{sym}
use Rattle.frame_stack.specs.Sessions.{session}
use Rattle.frame_stack.specs.Stacked.{below_top, frames_of}
use Rattle.ce_machine.proofs.BodyLaws.{returned_lasts, returned_throws, some_lasts_as, some_turns_as}
use Rattle.ce_machine.proofs.stops.returned.Goals as goal

pub returns-in_ok-o-in-Err-clause-turn : goal.returns-in_ok-o-in-Err-clause-turn
returns-in_ok-o-in-Err-clause-turn c =
    some_turns_as c.in_ok-o-in-Err.o (below_top (frames_of c.args.stack.now)) (frames_of c.thrown.new.stack) (session c.thrown.new.stack c.thrown.new.state) _ _
    (returned_throws c.args.stack.now c.requires.body c.args.state.now c.this-this.result c.args.value.now c.args.guarded c.in-Err.f c.this-this.ensures
    (sym c.in-Err.ensures.answer)) c.in_ok-o-in-Err.ensures.turn

pub returns-in_ok-o-in-Err-clause-lasts : goal.returns-in_ok-o-in-Err-clause-lasts
returns-in_ok-o-in-Err-clause-lasts c =
    some_lasts_as c.in_ok-o-in-Err.o c.args.state.now.page.forest _ _
    (returned_throws c.args.stack.now c.requires.body c.args.state.now c.this-this.result c.args.value.now c.args.guarded c.in-Err.f c.this-this.ensures
    (sym c.in-Err.ensures.answer)) c.in_ok-o-in-Err.ensures.lasts

pub returns-in-Ok-clause-lasts : goal.returns-in-Ok-clause-lasts
returns-in-Ok-clause-lasts c =
    returned_lasts c.args.stack.now c.args.state.now c.this-this.result c.args.value.now c.args.guarded c.in-Ok.given c.requires.body c.this-this.ensures
    (sym c.in-Ok.ensures.answer) c.in-Ok.ensures.there
