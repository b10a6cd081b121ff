use Rattle.rule_tokens.proofs.FlagsLaws.{flags_bare, flags_read, flags_ten, raised_back}
use Rattle.rule_tokens.proofs.laws.flags_are_read.Goals as goal

pub returns-clause-read : goal.returns-clause-read
returns-clause-read c = flags_read

pub returns-clause-bare : goal.returns-clause-bare
returns-clause-bare c = flags_bare

pub returns-clause-ten : goal.returns-clause-ten
returns-clause-ten c = flags_ten

pub returns-clause-named : goal.returns-clause-named
returns-clause-named c = raised_back
