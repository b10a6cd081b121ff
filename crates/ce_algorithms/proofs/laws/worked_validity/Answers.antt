use Rattle.ce_algorithms.proofs.Rows.{validity_texts_logs, validity_internals_logs}
use Rattle.ce_algorithms.proofs.laws.worked_validity.Goals as goal

pub returns-clause-texts : goal.returns-clause-texts
returns-clause-texts c = validity_texts_logs

pub returns-clause-internals : goal.returns-clause-internals
returns-clause-internals c = validity_internals_logs
