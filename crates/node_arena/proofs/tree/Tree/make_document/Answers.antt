use Rattle.std.proofs.Common.{◌≡◌, ◌+◌, ◌∙◌, arith, ap}
use Rattle.std.proofs.lemmas.Result.{on_ok_weaker}
use Rattle.node_trees.specs.declared.kind.NodeKind.TheVariants.{Document}
use Rattle.node_trees.specs.Facts.{blank}
use Rattle.node_trees.specs.Trees.{with_node}
use Rattle.node_trees.specs.Nodes.{size}
use Rattle.node_arena.specs.Seen.{seen_fact}
use Rattle.node_arena.proofs.Calls.{counts}
use Rattle.node_arena.proofs.tree.Tree.make_document.Goals as goal

pub returns-clause-made : goal.returns-clause-made
returns-clause-made c =
    let number : c.len.result + 1 ≡ size c.args.self.now + 1 =
    omega (arith, c.len.ensures, counts _ _ (seen_fact _ _ _ c.self.view_is), c.self.inside.nodes.ok.0) in
    on_ok_weaker c.add.result (λ e. e ∙ ap (λ x. with_node (size c.args.self.now + 1) x c.args.self.now) (c.blank.ensures.facts ∙ ap (blank Document) number))
    c.add.ensures.ok

pub returns-clause-tidy : goal.returns-clause-tidy
returns-clause-tidy c = (seen_fact _ _ _ c.self.view_is).tidy
