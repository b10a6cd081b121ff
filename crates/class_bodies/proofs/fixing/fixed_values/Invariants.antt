use Rattle.std.proofs.Common.{◌≡◌, ◌++◌, drop}
use Rattle.std.specs.Prelude.{map}
use Rattle.ce_algorithms.specs.Values.{fixed_value}
use Rattle.class_bodies.proofs.fixing.fixed_values.Given as goal

abbrev pub invariant-loop-v : goal.invariant-loop-v
invariant-loop-v l = l.texts ++ map (fixed_value l.memory l.args) (drop l.v-index l.v-items) ≡ map (fixed_value l.memory l.args) l.v-items
