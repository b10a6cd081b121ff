use Rattle.std.proofs.Common.{◌∙◌}
use Rattle.above_reading.proofs.Roots.{root-among, order-root}
use Rattle.above_reading.proofs.orders.the_order_of_a_tree_has_its_nodes.Goals as goal

pub returns-clause-has : goal.returns-clause-has
returns-clause-has c = λ f m tidy node. root-among f tidy m node

pub returns-clause-no_other : goal.returns-clause-no_other
returns-clause-no_other c = λ f r m tidy top among. order-root f tidy r m among ∙ top
