use Rattle.std.proofs.Common.{◌≡◌, length}
use Rattle.ce_algorithms.specs.State.{with_work, work_of}
use Rattle.session_state.proofs.state.State.log_notes.Given as goal

abbrev pub invariant-loop-note : goal.invariant-loop-note
invariant-loop-note l = record {
  work : with_work (work_of l.self) l.self ≡ with_work (work_of l.initial.self) l.initial.self;
  queues : l.self.page.queues ≡ l.initial.self.page.queues;
  forest : l.self.page.forest ≡ l.initial.self.page.forest;
  fuel : l.self.fuel ≡ l.initial.self.fuel;
}

abbrev pub decreases-loop-note : goal.decreases-loop-note
decreases-loop-note l = length l.self.page.notes
