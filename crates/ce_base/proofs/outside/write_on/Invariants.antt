use Rattle.std.proofs.Common.{◌≡◌, ◌≤◌, ◌-◌, length, take}
use Rattle.std.specs.Io.KnownBytes.{Appends}
use Rattle.ce_base.proofs.outside.write_on.Given as goal

abbrev pub invariant-loop-count : goal.invariant-loop-count
invariant-loop-count g l = record {
  count : l.count ≤ length l.bytes;
  written : Appends (g.K.Sink.held l.initial.sink) (g.K.Sink.held l.sink) (take l.count l.bytes);
  later : g.K.Sink.failed l.initial.sink ≤ g.K.Sink.failed l.sink;
  told : g.K.Sink.failed l.sink ≤ g.K.Sink.failed l.initial.sink;
  home : g.K.Sink.home l.sink ≡ g.K.Sink.home l.initial.sink;
  below : g.K.Sink.below l.initial.sink ≤ g.K.Sink.below l.sink;
}

abbrev pub decreases-loop-count : goal.decreases-loop-count
decreases-loop-count g l = length l.bytes - l.count
