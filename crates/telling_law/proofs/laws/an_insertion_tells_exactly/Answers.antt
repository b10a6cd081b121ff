use Rattle.telling_law.proofs.Mutations.{insertion-exactly, insertion-partly}
use Rattle.telling_law.proofs.laws.an_insertion_tells_exactly.Goals as goal

pub returns-clause-all : goal.returns-clause-all
returns-clause-all c = λ parent node before w v tidy is off e. insertion-exactly parent node before w tidy is off v e

pub returns-clause-part : goal.returns-clause-part
returns-clause-part c = λ parent node before w v tidy is off e. insertion-partly parent node before w tidy is off v e
