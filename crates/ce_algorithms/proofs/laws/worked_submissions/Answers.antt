use Rattle.ce_algorithms.proofs.Rows.{submissions_requests_logs, submissions_within_logs}
use Rattle.ce_algorithms.proofs.laws.worked_submissions.Goals as goal

pub returns-clause-requests : goal.returns-clause-requests
returns-clause-requests c = submissions_requests_logs

pub returns-clause-within : goal.returns-clause-within
returns-clause-within c = submissions_within_logs
