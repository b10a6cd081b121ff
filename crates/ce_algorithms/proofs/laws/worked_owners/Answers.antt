use Rattle.ce_algorithms.proofs.Rows.{owner_logs, disabled_logs, owner_disabled_logs}
use Rattle.ce_algorithms.proofs.laws.worked_owners.Goals as goal

pub returns-clause-owner : goal.returns-clause-owner
returns-clause-owner c = owner_logs

pub returns-clause-disabled : goal.returns-clause-disabled
returns-clause-disabled c = disabled_logs

pub returns-clause-both : goal.returns-clause-both
returns-clause-both c = owner_disabled_logs
