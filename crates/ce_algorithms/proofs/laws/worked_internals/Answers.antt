use Rattle.ce_algorithms.proofs.Rows.{internals_refused_logs, internals_values_logs, internals_attached_logs}
use Rattle.ce_algorithms.proofs.laws.worked_internals.Goals as goal

pub returns-clause-refused : goal.returns-clause-refused
returns-clause-refused c = internals_refused_logs

pub returns-clause-values : goal.returns-clause-values
returns-clause-values c = internals_values_logs

pub returns-clause-attached : goal.returns-clause-attached
returns-clause-attached c = internals_attached_logs
