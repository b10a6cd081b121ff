use Rattle.std.proofs.Common.{◌≡◌, ◌≤◌, take}
use Rattle.std.specs.Io.KnownBytes.{Appends}
use Rattle.body_reader.specs.Listing.{listing}
use Rattle.body_reader.proofs.listing.write_entries.Given as goal

abbrev pub invariant-loop-e : goal.invariant-loop-e
invariant-loop-e g l = record {
  wrote : Appends (g.K.Sink.held l.initial.sink) (g.K.Sink.held l.sink) (listing (take l.e-index l.entries));
  home : g.K.Sink.home l.sink ≡ g.K.Sink.home l.initial.sink;
  below : g.K.Sink.below l.initial.sink ≤ g.K.Sink.below l.sink;
  later : g.K.Sink.failed l.initial.sink ≤ g.K.Sink.failed l.sink;
  told : g.K.Sink.failed l.sink ≤ g.K.Sink.failed l.initial.sink;
}
