use Rattle.std.proofs.Common.{ap}
use Rattle.ce_algorithms.specs.Create.{create_failed}
use Rattle.ce_algorithms.specs.Perform.{gives_node}
use Rattle.ce_frames.specs.Turned.{ended}
use Rattle.session_state.proofs.GivenLaws.{node_ends, node_there}
use Rattle.ce_outcomes.proofs.creations.failed_turn.Goals as goal

pub returns-clause-turn : goal.returns-clause-turn
returns-clause-turn c =
    let o = gives_node (create_failed c.args.local c.args.document c.args.f) c.args.state.now in
    let ends = node_ends c.create_failed.result c.create_failed.new.state
    (create_failed c.args.local c.args.document c.args.f c.args.state.now) c.create_failed.ensures.step in
    ap ended (c.in_ok-now.ensures.came c.create_failed.new.state o (rw c.gives_node-made.ensures ends))

pub returns-clause-there : goal.returns-clause-there
returns-clause-there c = c.in_ok-now.ensures.there c.create_failed.new.state.page.forest
    (rw c.gives_node-made.ensures (node_there c.create_failed.result c.create_failed.new.state.page.forest c.create_failed.ensures.made))
