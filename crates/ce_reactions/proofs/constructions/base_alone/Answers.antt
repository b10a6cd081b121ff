use Rattle.ce_algorithms.specs.Construction.{base_call}
use Rattle.ce_algorithms.specs.Perform.{gives_node}
use Rattle.ce_algorithms.specs.State.{on_page}
use Rattle.ce_outcomes.proofs.GivenLaws.{node_ends, node_there}
use Rattle.ce_reactions.proofs.constructions.base_alone.Goals as goal

pub returns-clause-step : goal.returns-clause-step
returns-clause-step c =
    let o = gives_node (on_page (base_call c.args.class)) c.args.state.now in
    let ends = node_ends c.base_call.result c.base_call.new.self (on_page (base_call c.args.class) c.args.state.now) c.base_call.ensures.step in
    c.in_ok-now.ensures.came c.base_call.new.self o (rw c.gives_node-made.ensures ends)

pub returns-clause-there : goal.returns-clause-there
returns-clause-there c = c.in_ok-now.ensures.there c.base_call.new.self.page.forest
    (rw c.gives_node-made.ensures (node_there c.base_call.result c.base_call.new.self.page.forest c.base_call.ensures.made))
