use Rattle.std.proofs.Common.{◌≡◌, ◌∙◌, ap}
use Rattle.std.proofs.lemmas.Result.{IfOk-weaker}
use Rattle.node_trees.specs.declared.kind.NodeKind.TheVariants.{TextNode}
use Rattle.node_trees.specs.Facts.{Facts}
use Rattle.node_trees.specs.Nodes.{IsNode}
use Rattle.node_trees.specs.Spots.{kind_at}
use Rattle.node_arena.proofs.tree.Tree.make_text.Goals as goal

pub returns-clause-text : goal.returns-clause-text
returns-clause-text c =
    IfOk-weaker c.add.result (λ n. IsNode c.add.new.self n × (kind_at c.add.new.self n ≡ c.blank-node.result.kind))
    (λ n. IsNode c.add.new.self n × (kind_at c.add.new.self n ≡ TextNode))
    (λ n at. (at.0, at.1 ∙ ap (λ (x : Facts). x.kind) c.blank-node.ensures.facts)) c.add.ensures.made
