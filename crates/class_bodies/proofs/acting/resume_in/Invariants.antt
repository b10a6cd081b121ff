use Rattle.std.proofs.Common.{◌≡◌, ◌≤◌, drop, length}
use Rattle.ce_algorithms.specs.Body.{actions_of}
use Rattle.class_bodies.specs.Resume.{resumed}
use Rattle.class_bodies.proofs.acting.resume_in.Given as goal

abbrev pub invariant-loop-action : goal.invariant-loop-action
invariant-loop-action l = record {
  resumed : resumed l.args (drop l.at.index (actions_of l.at.call l.bodies)) l.memory l.fuel
      ≡ resumed l.args (drop l.initial.at.index (actions_of l.initial.at.call l.bodies)) l.initial.memory l.initial.fuel;
  call : l.at.call ≡ l.initial.at.call;
  less : l.fuel ≤ l.initial.fuel;
}

abbrev pub decreases-loop-action : goal.decreases-loop-action
decreases-loop-action l = length (drop l.at.index (actions_of l.at.call l.bodies))
