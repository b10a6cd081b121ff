use Rattle.above_reading.proofs.AttributeOrders.{order-set, root-set, order-gone, root-gone}
use Rattle.above_reading.proofs.orders.an_attribute_leaves_the_orders.Goals as goal

pub returns-clause-set_order : goal.returns-clause-set_order
returns-clause-set_order c = order-set

pub returns-clause-set_root : goal.returns-clause-set_root
returns-clause-set_root c = root-set

pub returns-clause-gone_order : goal.returns-clause-gone_order
returns-clause-gone_order c = order-gone

pub returns-clause-gone_root : goal.returns-clause-gone_root
returns-clause-gone_root c = root-gone
