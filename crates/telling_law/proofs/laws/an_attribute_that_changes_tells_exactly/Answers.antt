use Rattle.telling_law.proofs.Attributes.{setting-exactly, setting-partly, taking-exactly, taking-partly}
use Rattle.telling_law.proofs.laws.an_attribute_that_changes_tells_exactly.Goals as goal

pub returns-clause-set_all : goal.returns-clause-set_all
returns-clause-set_all c = setting-exactly

pub returns-clause-set_part : goal.returns-clause-set_part
returns-clause-set_part c = setting-partly

pub returns-clause-removed_all : goal.returns-clause-removed_all
returns-clause-removed_all c = taking-exactly

pub returns-clause-removed_part : goal.returns-clause-removed_part
returns-clause-removed_part c = taking-partly
