use Rattle.device_bench.proofs.ByTick.{orders_by}
use Rattle.device_bench.proofs.bench.Bench.order.Goals as goal

pub order_of-requires-clause-order : goal.order_of-requires-clause-order
order_of-requires-clause-order c =
    rw c.items.ensures (orders_by (λ o. o.tick) c.self.inside.run.orders c.self.invariant.0.in_order.orders)
