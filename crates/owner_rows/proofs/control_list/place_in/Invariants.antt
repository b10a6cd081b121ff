use Rattle.std.proofs.Common.{◌≡◌, ◌-◌, ◌≤◌, false, drop, length, take}
use Rattle.node_trees.specs.Paths.{is_among}
use Rattle.owner_rows.proofs.control_list.place_in.Given as goal

abbrev pub invariant-loop-low : goal.invariant-loop-low
invariant-loop-low l = record {
  low : l.low ≤ length l.list;
  high : l.high ≤ length l.list;
  front : is_among l.n (take l.low l.list) ≡ false;
  back : is_among l.n (drop l.high l.list) ≡ false;
}

abbrev pub decreases-loop-low : goal.decreases-loop-low
decreases-loop-low l = l.high - l.low
