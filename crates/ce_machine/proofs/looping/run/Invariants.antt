use Rattle.std.proofs.Common.{◌≡◌, ◌≤◌}
use Rattle.ce_algorithms.specs.Written.{Did}
use Rattle.frame_stack.specs.Sessions.{ArePaired, session}
use Rattle.frame_stack.specs.Stacked.{frames_of}
use Rattle.ce_outcomes.specs.Placed.{ArePlaced}
use Rattle.ce_outcomes.specs.Turns.{came_in, end_of}
use Rattle.ce_machine.specs.Turns.{left, over}
use Rattle.ce_machine.proofs.looping.run.Given as goal

abbrev pub invariant-loop-state : goal.invariant-loop-state
invariant-loop-state g l = record {
  did : Did l.trace (g.K.Sink.held l.initial.sink) (g.K.Sink.held l.sink) (over l.initial.stack (came_in l.fn.end (session l.initial.stack l.initial.state)))
      (over l.stack (came_in l.now (session l.stack l.state)));
  paired : ArePaired l.stack l.state;
  placed : ArePlaced l.state.page.forest (frames_of l.stack) (end_of l.now);
  later : g.K.Sink.failed l.initial.sink ≤ g.K.Sink.failed l.sink;
  told : g.K.Sink.failed l.sink ≤ g.K.Sink.failed l.initial.sink;
  home : g.K.Sink.home l.sink ≡ g.K.Sink.home l.initial.sink;
  below : g.K.Sink.below l.initial.sink ≤ g.K.Sink.below l.sink;
}

abbrev pub decreases-loop-state : goal.decreases-loop-state
decreases-loop-state g l = left l.stack (session l.stack l.state)
