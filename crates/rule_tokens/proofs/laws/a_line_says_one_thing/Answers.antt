use Rattle.rule_tokens.proofs.CaseLaws.{said_once}
use Rattle.rule_tokens.proofs.laws.a_line_says_one_thing.Goals as goal

pub returns : goal.returns
returns c = said_once
