use Rattle.rule_lines.proofs.ApartLaws.{one_fault}
use Rattle.rule_lines.proofs.laws.faults_are_apart.Goals as goal

pub returns : goal.returns
returns c = one_fault
