use Rattle.std.proofs.Common.{None, refl}
use Rattle.ce_page.proofs.StepLemmas.{put_in_is}
use Rattle.ce_page.proofs.page.Page.put_apart.Goals as goal

pub returns-clause-step : goal.returns-clause-step
returns-clause-step c =
    let steps = put_in_is c.args.self.now c.graft.new.self c.args.fuel.now c.in_ok-changes.changes c.in_ok-changes.ensures.changes c.args.parent c.args.node
    None _ c.in_ok-changes.ensures.page refl in
    rw steps c.tell_insertion.ensures.step
