use Rattle.ce_algorithms.proofs.Rows.{put_back_logs, operands_logs, under_construction_logs, shadow_disabled_logs, inert_logs, clones_logs, second_super_logs}
use Rattle.ce_algorithms.proofs.Rows.{arguments_logs}
use Rattle.ce_algorithms.proofs.laws.worked_corners.Goals as goal

pub returns-clause-put_back : goal.returns-clause-put_back
returns-clause-put_back c = put_back_logs

pub returns-clause-operands : goal.returns-clause-operands
returns-clause-operands c = operands_logs

pub returns-clause-under_construction : goal.returns-clause-under_construction
returns-clause-under_construction c = under_construction_logs

pub returns-clause-shadow_disabled : goal.returns-clause-shadow_disabled
returns-clause-shadow_disabled c = shadow_disabled_logs

pub returns-clause-inert : goal.returns-clause-inert
returns-clause-inert c = inert_logs

pub returns-clause-clones : goal.returns-clause-clones
returns-clause-clones c = clones_logs

pub returns-clause-second_super : goal.returns-clause-second_super
returns-clause-second_super c = second_super_logs

pub returns-clause-arguments : goal.returns-clause-arguments
returns-clause-arguments c = arguments_logs
