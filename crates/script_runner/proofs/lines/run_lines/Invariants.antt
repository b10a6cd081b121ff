use Rattle.std.proofs.Common.{◌≡◌, ◌≤◌, length}
use Rattle.script_runner.proofs.LoopLaws.{RunsOn}
use Rattle.script_runner.proofs.lines.run_lines.Given as goal

abbrev pub invariant-lines : goal.invariant-lines
invariant-lines g l = record {
  runs : RunsOn l.fn.session l.session l.initial.feed l.feed (g.K.Sink.held l.initial.sink) (g.K.Sink.held l.sink);
  home : g.K.Sink.home l.sink ≡ g.K.Sink.home l.initial.sink;
  below : g.K.Sink.below l.initial.sink ≤ g.K.Sink.below l.sink;
  later : g.K.Sink.failed l.initial.sink ≤ g.K.Sink.failed l.sink;
  told : g.K.Sink.failed l.sink ≤ g.K.Sink.failed l.initial.sink;
}

abbrev pub decreases-lines : goal.decreases-lines
decreases-lines g l = length l.feed
