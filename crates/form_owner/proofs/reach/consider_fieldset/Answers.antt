use Rattle.form_owner.proofs.Nodes.{order-nodes}
use Rattle.form_owner.proofs.reach.consider_fieldset.Goals as goal

pub consider_all-requires : goal.consider_all-requires
consider_all-requires c = order-nodes c.args.tree.now c.args.parent _ c.requires.tidy c.in_ok-below.ensures
