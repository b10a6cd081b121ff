use Rattle.rule_tokens.proofs.CaseLaws.{lex_reads, said_is_read}
use Rattle.rule_tokens.proofs.laws.lines_are_answered.Goals as goal

pub returns-clause-answered : goal.returns-clause-answered
returns-clause-answered c = lex_reads

pub returns-clause-read : goal.returns-clause-read
returns-clause-read c = said_is_read
