use Rattle.std.proofs.Common.{◌≡◌, true, subst}
use Rattle.node_trees.specs.Nodes.{IsTidy}
use Rattle.ce_algorithms.specs.Forms.{forms_of}
use Rattle.page_calls.proofs.ControlsLaws.{copied-nodes}
use Rattle.page_calls.proofs.questions.controls.Goals as goal

pub returns-clause-nodes : goal.returns-clause-nodes
returns-clause-nodes c =
    let settled : c.args.page.now.settled ≡ true = search depth 8 in
    let nodes = c.controls.ensures.nodes (forms_of c.args.page.now) (c.owners.ensures settled)
    (subst IsTidy c.tree.ensures.tree c.count-count.ensures.tidy) c.requires in
    copied-nodes c.args.page.now.forest c.copied.result c.controls.result.now nodes c.copied.ensures
