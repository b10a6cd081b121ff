use Rattle.std.proofs.Common.{ap}
use Rattle.node_trees.specs.Spots.{facts_at}
use Rattle.ce_algorithms.specs.Page.{Page}
use Rattle.ce_page.proofs.page.Page.copy_attributes.Goals as goal

pub returns-clause-step : goal.returns-clause-step
returns-clause-step c = rw (
  c.deref.ensures.value,
  c.in_ok-attributes.ensures.list,
  ap (λ (p : Page). (facts_at p.forest c.args.from).attributes) c.self.view_is,
) at c.copy_each.ensures.step
