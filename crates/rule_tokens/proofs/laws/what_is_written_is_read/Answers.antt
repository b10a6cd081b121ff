use Rattle.rule_tokens.proofs.SpacedLaws.{written_is_read}
use Rattle.rule_tokens.proofs.laws.what_is_written_is_read.Goals as goal

pub returns : goal.returns
returns c = written_is_read
