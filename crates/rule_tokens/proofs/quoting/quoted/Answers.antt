use Rattle.rule_tokens.proofs.QuoteLaws.{read_back}
use Rattle.rule_tokens.proofs.quoting.quoted.Goals as goal

pub returns-clause-back : goal.returns-clause-back
returns-clause-back c = read_back c.args.text.now c.quoted_text.result c.utf8.text c.quoted_text.ensures.text c.quoted_text.ensures.utf8
