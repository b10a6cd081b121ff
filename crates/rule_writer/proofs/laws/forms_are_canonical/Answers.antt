use Rattle.rule_writer.proofs.FormLaws.{forms_canonical}
use Rattle.rule_writer.proofs.laws.forms_are_canonical.Goals as goal

pub returns : goal.returns
returns c = forms_canonical
