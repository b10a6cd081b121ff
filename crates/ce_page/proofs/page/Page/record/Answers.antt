use Rattle.std.proofs.Common.{subst, sym}
use Rattle.node_trees.specs.Kinds.{IsElement}
use Rattle.ce_algorithms.specs.Page.{Page}
use Rattle.ce_page.proofs.RowLemmas.{above}
use Rattle.ce_page.proofs.WaitLemmas.{enqueued_waits}
use Rattle.ce_page.proofs.page.Page.record.Goals as goal

pub invariant_of-self-in_err-push_back : goal.invariant_of-self-in_err-push_back
invariant_of-self-in_err-push_back c =
    let element : IsElement c.self.inside.tree c.args.n = subst (λ (p : Page). IsElement p.forest c.args.n) (sym c.self.view_is) c.requires.element in
    record {
      sound = record {
        rows = c.self.invariant.sound.rows;
        waits = rw c.in_ok-number.ensures.queues
            (enqueued_waits c.self.inside.tree c.args.n c.args.r c.self.inside.queues
            (above c.args.n c.self.invariant.sound.rows element) c.self.invariant.sound.waits);
        held = c.self.invariant.sound.held;
      };
      given = c.self.invariant.given;
      owners = c.self.invariant.owners;
    }

pub invariant_of-self-2 : goal.invariant_of-self-2
invariant_of-self-2 c =
    let element : IsElement c.self.inside.tree c.args.n = subst (λ (p : Page). IsElement p.forest c.args.n) (sym c.self.view_is) c.requires.element in
    record {
      sound = record {
        rows = c.self.invariant.sound.rows;
        waits = rw c.in_ok-number.ensures.queues
            (enqueued_waits c.self.inside.tree c.args.n c.args.r c.self.inside.queues
            (above c.args.n c.self.invariant.sound.rows element) c.self.invariant.sound.waits);
        held = c.self.invariant.sound.held;
      };
      given = c.self.invariant.given;
      owners = c.self.invariant.owners;
    }
