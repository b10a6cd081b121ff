use Rattle.ce_algorithms.proofs.Rows.{candidates_logs, upgrade_throws_logs, create_throws_logs, construction_logs, constructors_logs, extends_logs}
use Rattle.ce_algorithms.proofs.Rows.{definitions_logs}
use Rattle.ce_algorithms.proofs.laws.worked_upgrades.Goals as goal

pub returns-clause-candidates : goal.returns-clause-candidates
returns-clause-candidates c = candidates_logs

pub returns-clause-upgrade_throws : goal.returns-clause-upgrade_throws
returns-clause-upgrade_throws c = upgrade_throws_logs

pub returns-clause-create_throws : goal.returns-clause-create_throws
returns-clause-create_throws c = create_throws_logs

pub returns-clause-construction : goal.returns-clause-construction
returns-clause-construction c = construction_logs

pub returns-clause-constructors : goal.returns-clause-constructors
returns-clause-constructors c = constructors_logs

pub returns-clause-extends : goal.returns-clause-extends
returns-clause-extends c = extends_logs

pub returns-clause-definitions : goal.returns-clause-definitions
returns-clause-definitions c = definitions_logs
