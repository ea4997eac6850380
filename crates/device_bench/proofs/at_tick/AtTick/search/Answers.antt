use Rattle.device_bench.proofs.ByTick.{inputs_by, orders_by}
use Rattle.device_bench.proofs.at_tick.AtTick.search.Goals as goal

pub count_before-requires : goal.count_before-requires
count_before-requires c =
    rw c.items-inputs.ensures (inputs_by (λ i. i.tick) c.args.run.now.inputs c.requires.inputs)

pub count_before-requires-2 : goal.count_before-requires-2
count_before-requires-2 c =
    rw c.items-inputs.ensures (inputs_by (λ i. i.tick) c.args.run.now.inputs c.requires.inputs)

pub count_before-requires-3 : goal.count_before-requires-3
count_before-requires-3 c =
    rw c.items.ensures (orders_by (λ o. o.tick) c.args.run.now.orders c.requires.orders)
