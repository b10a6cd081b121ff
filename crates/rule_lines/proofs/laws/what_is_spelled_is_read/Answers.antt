use Rattle.rule_lines.proofs.SpellLaws.{read_is_spelled, spelled_is_read}
use Rattle.rule_lines.proofs.laws.what_is_spelled_is_read.Goals as goal

pub returns : goal.returns
returns c = λ ts read_as. (spelled_is_read ts read_as, read_is_spelled ts read_as)
