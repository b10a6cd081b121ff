use Rattle.std.proofs.Common.{◌≡◌, length}
use Rattle.node_trees.specs.Nodes.{IsNode}
use Rattle.form_controls.specs.Barred.{is_in_datalist}
use Rattle.form_controls.specs.Owners.{ancestors}
use Rattle.form_owner.proofs.reading.is_in_datalist.Given as goal

abbrev pub invariant-loop-parent : goal.invariant-loop-parent
invariant-loop-parent l = record { node : IsNode l.tree l.at; is : is_in_datalist l.tree l.fn.n ≡ is_in_datalist l.tree l.at }

abbrev pub decreases-loop-parent : goal.decreases-loop-parent
decreases-loop-parent l = length (ancestors l.tree l.at)
