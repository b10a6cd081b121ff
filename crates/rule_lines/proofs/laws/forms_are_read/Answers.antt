use Rattle.rule_lines.proofs.FormLaws.{says_form}
use Rattle.rule_lines.proofs.laws.forms_are_read.Goals as goal

pub returns : goal.returns
returns c = says_form
