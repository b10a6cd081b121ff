use Rattle.std.proofs.Common.{arith}
use Rattle.std.proofs.lemmas.List.{length-map}
use Rattle.node_arena.specs.Seen.{seen_fact}
use Rattle.node_arena.specs.NodeLinks.{link_from}
use Rattle.node_arena.proofs.tree.Tree.count.Goals as goal

pub returns-clause-count : goal.returns-clause-count
returns-clause-count c = omega (
  arith,
  (seen_fact _ _ _ c.self.view_is).counted,
  length-map c.self.inside.nodes.items link_from,
  c.len.ensures,
  c.self.inside.nodes.ok.0,
)

pub returns-clause-tidy : goal.returns-clause-tidy
returns-clause-tidy c = (seen_fact _ _ _ c.self.view_is).tidy
