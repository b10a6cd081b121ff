use Rattle.ce_algorithms.proofs.Rows.{inner_queue_logs, reentry_logs, try_logs, connected_logs, adopted_logs, tree_logs, endless_logs}
use Rattle.ce_algorithms.proofs.laws.worked_callbacks.Goals as goal

pub returns-clause-inner_queue : goal.returns-clause-inner_queue
returns-clause-inner_queue c = inner_queue_logs

pub returns-clause-reentry : goal.returns-clause-reentry
returns-clause-reentry c = reentry_logs

pub returns-clause-faults : goal.returns-clause-faults
returns-clause-faults c = try_logs

pub returns-clause-connected : goal.returns-clause-connected
returns-clause-connected c = connected_logs

pub returns-clause-adopted : goal.returns-clause-adopted
returns-clause-adopted c = adopted_logs

pub returns-clause-tree : goal.returns-clause-tree
returns-clause-tree c = tree_logs

pub returns-clause-endless : goal.returns-clause-endless
returns-clause-endless c = endless_logs
