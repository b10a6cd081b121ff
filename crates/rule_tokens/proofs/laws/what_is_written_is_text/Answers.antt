use Rattle.rule_tokens.proofs.TextLaws.{written_is_text}
use Rattle.rule_tokens.proofs.laws.what_is_written_is_text.Goals as goal

pub returns : goal.returns
returns c = written_is_text
