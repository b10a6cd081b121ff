use Rattle.rule_script.proofs.LineLaws.{read_found, read_only, read_refusal}
use Rattle.rule_script.proofs.reading.read_line_within.Goals as goal

pub returns-clause-found : goal.returns-clause-found
returns-clause-found c = read_found c.below.ensures _ _ c.said.result c.said.ensures

pub returns-clause-only : goal.returns-clause-only
returns-clause-only c = read_only c.below.ensures _ _ c.said.result c.said.ensures

pub returns-clause-refused : goal.returns-clause-refused
returns-clause-refused c = read_refusal c.below.ensures _ _ c.said.result c.said.ensures
