use Rattle.ce_algorithms.proofs.Rows.{reset_traced_logs, reset_radios_logs, reset_form_logs, reset_within_logs, restored_logs}
use Rattle.ce_algorithms.proofs.laws.worked_resets.Goals as goal

pub returns-clause-with_trace : goal.returns-clause-with_trace
returns-clause-with_trace c = reset_traced_logs

pub returns-clause-radios : goal.returns-clause-radios
returns-clause-radios c = reset_radios_logs

pub returns-clause-form : goal.returns-clause-form
returns-clause-form c = reset_form_logs

pub returns-clause-within : goal.returns-clause-within
returns-clause-within c = reset_within_logs

pub returns-clause-restored : goal.returns-clause-restored
returns-clause-restored c = restored_logs
