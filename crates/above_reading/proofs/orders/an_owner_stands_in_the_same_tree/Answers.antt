use Rattle.above_reading.proofs.OwnerTogether.{owner-together, owner-in_order}
use Rattle.above_reading.proofs.orders.an_owner_stands_in_the_same_tree.Goals as goal

pub returns-clause-together : goal.returns-clause-together
returns-clause-together c = owner-together

pub returns-clause-in_order : goal.returns-clause-in_order
returns-clause-in_order c = owner-in_order
