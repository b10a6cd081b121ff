use Rattle.std.proofs.Common.{◌≤◌, ◌-◌, length}
use Rattle.std.specs.Io.KnownBytes.{Consumes}
use Rattle.ce_base.proofs.whole.read_pieces.Given as goal

abbrev pub invariant-loop-taken : goal.invariant-loop-taken
invariant-loop-taken g l = record {
  took : Consumes (g.S.Source.left l.fn.source) (g.S.Source.left l.source) l.taken.items;
  within : length l.taken.items ≤ l.limit;
  later : g.S.Source.failed l.fn.source ≤ g.S.Source.failed l.source;
  told : g.S.Source.failed l.source ≤ g.S.Source.failed l.fn.source;
}

abbrev pub decreases-loop-taken : goal.decreases-loop-taken
decreases-loop-taken g l = l.limit - length l.taken.items
