use Rattle.telling_law.proofs.Mutations.{removal-exactly, removal-partly}
use Rattle.telling_law.proofs.laws.a_removal_tells_exactly.Goals as goal

pub returns-clause-all : goal.returns-clause-all
returns-clause-all c = λ node w v tidy e. removal-exactly node w tidy v e

pub returns-clause-part : goal.returns-clause-part
returns-clause-part c = λ node w v tidy e. removal-partly node w tidy v e
