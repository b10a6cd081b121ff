use Rattle.rule_tokens.proofs.CaseLaws.{refused_for, read_to, only_read}
use Rattle.rule_tokens.proofs.tokens.tokens_of.Goals as goal

pub returns-clause-refused : goal.returns-clause-refused
returns-clause-refused c = refused_for _ _ _ c.lex.ensures

pub returns-clause-read : goal.returns-clause-read
returns-clause-read c = read_to _ _ _ c.lex.ensures

pub returns-clause-only : goal.returns-clause-only
returns-clause-only c = only_read _ _ _ c.lex.ensures
