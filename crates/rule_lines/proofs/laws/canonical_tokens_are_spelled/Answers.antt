use Rattle.rule_lines.proofs.CanonLaws.{spelled_again}
use Rattle.rule_lines.proofs.laws.canonical_tokens_are_spelled.Goals as goal

pub returns : goal.returns
returns c = spelled_again (λ t raised e. c.flags_are_read.ensures.read raised (c.flags_are_read.ensures.ten t raised e))
