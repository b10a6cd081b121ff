use Rattle.rule_script.proofs.FaultLaws.{line_refused}
use Rattle.rule_script.proofs.SpellLaws.{found, only}
use Rattle.rule_script.proofs.laws.lines_read_as_they_spell.Goals as goal

pub returns-clause-reads : goal.returns-clause-reads
returns-clause-reads c = λ limit bytes x. (found c.below.ensures limit bytes x, only c.below.ensures limit bytes x)

pub returns-clause-refuses : goal.returns-clause-refuses
returns-clause-refuses c = line_refused c.below.ensures
