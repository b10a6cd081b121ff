use Rattle.form_owner.proofs.GroupWalks.{members-end, members-step, members-split}
use Rattle.form_owner.proofs.laws.a_group_is_gone_through.Goals as goal

pub returns-clause-next : goal.returns-clause-next
returns-clause-next c = λ f radio m behind tidy e. members-step f radio tidy behind m e

pub returns-clause-last : goal.returns-clause-last
returns-clause-last c = λ f radio behind e. members-end f radio behind e

pub returns-clause-split : goal.returns-clause-split
returns-clause-split c = λ f radio m front back tidy e. members-split f radio tidy front back m e
