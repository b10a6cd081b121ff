use Rattle.rule_lines.proofs.CleanLaws.{canonical_clean}
use Rattle.rule_lines.proofs.laws.canonical_tokens_are_clean.Goals as goal

pub returns : goal.returns
returns c = canonical_clean (λ t raised e. c.flags_are_read.ensures.bare raised (c.flags_are_read.ensures.ten t raised e))
