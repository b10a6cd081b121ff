use Rattle.std.proofs.lemmas.Result.{err_from_is_err_and}
use Rattle.ce_frames.specs.Loop.{command_turn}
use Rattle.frame_stack.specs.Sessions.{session}
use Rattle.frame_stack.specs.Stacked.{frames_of}
use Rattle.ce_machine.proofs.CommandLaws.{begun_placed, command_ran, command_is_quiet, command_part, none_seen}
use Rattle.ce_machine.proofs.command.run_command.Goals as goal

pub run-requires-clause-placed : goal.run-requires-clause-placed
run-requires-clause-placed g c =
    begun_placed (frames_of c.args.stack.now) (frames_of c.begin.new.stack) c.in_ok-end.end c.args.state.now.page.forest
    (session c.begin.new.stack c.begin.new.state) (command_turn c.args.line c.args.c (session c.args.stack.now c.args.state.now))
    (none_seen c.args.stack.now c.requires.rest) c.in_ok-end.ensures.turn c.in_ok-end.ensures.placed

pub returns-in_err-now-clause-part : goal.returns-in_err-now-clause-part
returns-in_err-now-clause-part g c =
    let p = err_from_is_err_and c.from_residual-in_err-now.result c.from_residual-in_err-now.ensures.1 in
    rw p.1 (command_part c.args.trace _ _ c.args.stack.now c.begin.new.stack c.in_ok-end.end c.args.line c.args.c (session c.args.stack.now c.args.state.now)
    (session c.begin.new.stack c.begin.new.state) (none_seen c.args.stack.now c.requires.rest) c.in_ok-end.ensures.turn c.in_err-now.ensures.part)

pub ended-requires : goal.ended-requires
ended-requires g c = command_is_quiet c.args.stack.now c.begin.new.stack c.in_ok-end.end c.in_ok-now.now c.args.line c.args.c
    (session c.args.stack.now c.args.state.now) (session c.begin.new.stack c.begin.new.state) (session c.run.new.stack c.run.new.state)
    (none_seen c.args.stack.now c.requires.rest) c.in_ok-end.ensures.turn c.in_ok-now.ensures.ran

pub returns-clause-ran : goal.returns-clause-ran
returns-clause-ran g c =
    rw c.ended.ensures (command_ran c.args.stack.now c.begin.new.stack c.in_ok-end.end c.in_ok-now.now c.args.line c.args.c
    (session c.args.stack.now c.args.state.now) (session c.begin.new.stack c.begin.new.state) (session c.run.new.stack c.run.new.state)
    (none_seen c.args.stack.now c.requires.rest) c.in_ok-end.ensures.turn c.in_ok-now.ensures.ran)
