use Rattle.std.proofs.Common.{◌≡◌, length}
use Rattle.reaction_queue.specs.Queues.{waiting_at}
use Rattle.ce_algorithms.specs.Upgrade.{drop_reactions}
use Rattle.session_state.proofs.state.State.drop_reactions.Given as goal

abbrev pub invariant-loop-number : goal.invariant-loop-number
invariant-loop-number l = record {
  step : drop_reactions l.n l.self ≡ drop_reactions l.n l.initial.self;
  forest : l.self.page.forest ≡ l.initial.self.page.forest;
}

abbrev pub decreases-loop-number : goal.decreases-loop-number
decreases-loop-number l = length (waiting_at l.self.page.queues l.n)
