use Rattle.reaction_queue.proofs.CellLemmas.{never_in_another, never_without_a_cell, once_in_its_own}
use Rattle.reaction_queue.proofs.laws.each_cell_is_in_one_chain.Goals as goal

pub returns-clause-own : goal.returns-clause-own
returns-clause-own c = once_in_its_own

pub returns-clause-others : goal.returns-clause-others
returns-clause-others c = never_in_another

pub returns-clause-none : goal.returns-clause-none
returns-clause-none c = never_without_a_cell
