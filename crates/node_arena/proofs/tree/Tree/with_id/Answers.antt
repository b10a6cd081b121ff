use Rattle.std.proofs.Common.{◌∙◌}
use Rattle.node_arena.specs.Seen.{seen_fact}
use Rattle.node_arena.proofs.Calls.{covers_all}
use Rattle.node_arena.proofs.tree.Tree.with_id.Goals as goal

pub returns : goal.returns
returns c = λ m has. c.group.ensures.held m ∙ covers_all _ _ _ _ (seen_fact _ _ _ c.self.view_is) c.self.invariant.0 m has
