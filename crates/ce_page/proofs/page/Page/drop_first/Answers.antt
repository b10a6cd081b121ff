use Rattle.ce_page.proofs.WaitLemmas.{drop_waits}
use Rattle.ce_page.proofs.page.Page.drop_first.Goals as goal

pub invariant_of-self : goal.invariant_of-self
invariant_of-self c = record {
  sound = record {
    rows = c.self.invariant.sound.rows;
    waits = drop_waits c.self.inside.tree c.self.inside.queues c.drop_first.new.self c.args.node c.drop_first.result c.self.invariant.sound.waits
        c.drop_first.ensures.first c.drop_first.ensures.queues;
    held = c.self.invariant.sound.held;
  };
  given = c.self.invariant.given;
  owners = c.self.invariant.owners;
}
