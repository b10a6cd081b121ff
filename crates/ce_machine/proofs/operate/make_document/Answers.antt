use Rattle.std.specs.Prelude.{Some}
use Rattle.ce_algorithms.specs.Making.{make_document}
use Rattle.ce_algorithms.specs.Perform.{gives_node}
use Rattle.ce_algorithms.specs.State.{on_page}
use Rattle.ce_frames.specs.Turned.{hand_down}
use Rattle.ce_drains.proofs.ConstructLaws.{down_lasts}
use Rattle.ce_machine.proofs.OperateLaws.{document_at, named_placed}
use Rattle.ce_machine.proofs.operate.make_document.Goals as goal

pub returns-clause-placed : goal.returns-clause-placed
returns-clause-placed c =
    named_placed c.args.state.now.page.forest (Some c.args.var) (hand_down (on_page (gives_node make_document))) c.args.state.now
    (down_lasts c.args.state.now.page.forest c.in_ok-now.now c.document-made.new.state (on_page (gives_node make_document) c.args.state.now)
    (c.in_ok-now.ensures.came c.document-made.new.state (on_page (gives_node make_document) c.args.state.now) c.document-made.ensures.step)
    c.document-made.ensures.grows
    (c.in_ok-now.ensures.there c.document-made.new.state.page.forest c.document-made.ensures.there))

pub returns-clause-blind : goal.returns-clause-blind
returns-clause-blind c = document_at c.args.var c.args.state.now
