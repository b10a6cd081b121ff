use Rattle.std.proofs.Common.{◌≤◌, ◌-◌}
use Rattle.script_runner.specs.Table.{limit}
use Rattle.script_runner.proofs.PieceLaws.{Streamed}
use Rattle.script_runner.proofs.pieces.run_pieces.Given as goal

abbrev pub invariant-pieces : goal.invariant-pieces
invariant-pieces g l = record {
  streamed : Streamed l.fn.options (g.S.Source.left l.fn.source) (g.S.Source.left l.source) (g.K.Sink.held l.fn.sink)
      (g.K.Sink.held l.sink) l.session l.feed l.taken;
  source_later : g.S.Source.failed l.fn.source ≤ g.S.Source.failed l.source;
  sink_later : g.K.Sink.failed l.fn.sink ≤ g.K.Sink.failed l.sink;
  source_told : g.S.Source.failed l.source ≤ g.S.Source.failed l.fn.source;
  sink_told : g.K.Sink.failed l.sink ≤ g.K.Sink.failed l.fn.sink;
}

abbrev pub decreases-pieces : goal.decreases-pieces
decreases-pieces g l = limit - l.taken
