use Rattle.ce_page.proofs.RowLemmas.{at_node}
use Rattle.ce_page.proofs.WaitLemmas.{next_waits, next_element}
use Rattle.ce_page.proofs.page.Page.next.Goals as goal

pub invariant_of-self : goal.invariant_of-self
invariant_of-self c = record {
  sound = record {
    rows = c.self.invariant.sound.rows;
    waits = next_waits c.self.inside.tree c.self.inside.queues c.next.new.self c.args.node c.next.result c.self.invariant.sound.waits c.next.ensures.first
        c.next.ensures.queues;
    held = c.self.invariant.sound.held;
  };
  given = c.self.invariant.given;
  owners = c.self.invariant.owners;
}

pub returns-clause-element : goal.returns-clause-element
returns-clause-element c =
    rw (← c.self.view_is) (next_element c.self.inside.tree c.self.inside.queues c.next.new.self c.args.node c.next.result
    (at_node c.args.node c.self.invariant.sound.rows) c.self.invariant.sound.waits c.next.ensures.first)
