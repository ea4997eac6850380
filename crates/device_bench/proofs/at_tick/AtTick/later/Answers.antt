use Rattle.device_bench.proofs.ByTick.{inputs_by, orders_by}
use Rattle.device_bench.proofs.at_tick.AtTick.later.Goals as goal

pub count_from-first-requires-clause-order : goal.count_from-first-requires-clause-order
count_from-first-requires-clause-order c =
    rw c.items-inputs.ensures (inputs_by (λ i. i.tick) c.args.run.now.inputs c.requires.order.inputs)

pub count_from-requires-clause-order : goal.count_from-requires-clause-order
count_from-requires-clause-order c =
    rw c.items-inputs.ensures (inputs_by (λ i. i.tick) c.args.run.now.inputs c.requires.order.inputs)

pub count_from-requires-2-clause-order : goal.count_from-requires-2-clause-order
count_from-requires-2-clause-order c =
    rw c.items.ensures (orders_by (λ o. o.tick) c.args.run.now.orders c.requires.order.orders)
