use Rattle.rule_reader.proofs.Back.{told}
use Rattle.rule_reader.proofs.laws.operands_tell_forms.Goals as goal

pub returns : goal.returns
returns c = told
