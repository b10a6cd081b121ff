use Rattle.std.proofs.Common.{◌≡◌, ◌≤◌, take}
use Rattle.std.specs.Io.KnownBytes.{Appends}
use Rattle.ce_events.specs.Text.{text}
use Rattle.session_state.proofs.flush.write_log.Given as goal

abbrev pub invariant-loop-e : goal.invariant-loop-e
invariant-loop-e g l = record {
  written : Appends (g.K.Sink.held l.initial.sink) (g.K.Sink.held l.sink) (text l.trace (take l.e-index l.log));
  later : g.K.Sink.failed l.initial.sink ≤ g.K.Sink.failed l.sink;
  told : g.K.Sink.failed l.sink ≤ g.K.Sink.failed l.initial.sink;
  home : g.K.Sink.home l.sink ≡ g.K.Sink.home l.initial.sink;
  below : g.K.Sink.below l.initial.sink ≤ g.K.Sink.below l.sink;
}
