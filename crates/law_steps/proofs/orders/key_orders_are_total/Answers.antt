use Rattle.law_steps.proofs.KeyOrders.{key_order_total}
use Rattle.law_steps.proofs.orders.key_orders_are_total.Goals as goal

pub returns : goal.returns
returns c = key_order_total
