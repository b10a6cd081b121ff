use Rattle.std.proofs.Common.{All, rules, sym, subst}
use Rattle.node_trees.specs.Nodes.{IsNode}
use Rattle.form_owner.proofs.Nodes.{controls-nodes}
use Rattle.form_owner.proofs.table.OwnerTable.controls.Goals as goal

pub returns-clause-list : goal.returns-clause-list
returns-clause-list c = search rules

pub returns-clause-nodes : goal.returns-clause-nodes
returns-clause-nodes c = λ f stands tidy node. subst (All (IsNode f.forest)) (sym (returns-clause-list c f stands node)) (controls-nodes f c.args.form tidy)
