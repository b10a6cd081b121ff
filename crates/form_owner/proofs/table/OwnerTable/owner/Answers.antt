use Rattle.std.proofs.Common.{rules}
use Rattle.form_owner.proofs.Nodes.{owner-node}
use Rattle.form_owner.proofs.table.OwnerTable.owner.Goals as goal

pub returns-clause-owner : goal.returns-clause-owner
returns-clause-owner c = search rules

pub returns-clause-node : goal.returns-clause-node
returns-clause-node c = λ f stands tidy node. owner-node f c.args.n c.owner_in.result tidy (returns-clause-owner c f stands node)
