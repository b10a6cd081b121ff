use Rattle.std.proofs.Common.{◌≡◌, true, subst}
use Rattle.node_trees.specs.Nodes.{IsTidy}
use Rattle.ce_algorithms.specs.Forms.{forms_of}
use Rattle.page_calls.proofs.questions.form_owner.Goals as goal

pub returns-clause-node : goal.returns-clause-node
returns-clause-node c =
    let settled : c.args.page.now.settled ≡ true = search depth 8 in
    c.owner.ensures.node (forms_of c.args.page.now) (c.owners.ensures settled) (subst IsTidy c.tree.ensures.tree c.count-count.ensures.tidy) c.requires
