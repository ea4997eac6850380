use Rattle.device_bench.proofs.ByTick.{inputs_by}
use Rattle.device_bench.proofs.at_tick.AtTick.start.Goals as goal

pub count_from-requires-clause-order : goal.count_from-requires-clause-order
count_from-requires-clause-order c =
    rw c.items.ensures (inputs_by (λ i. i.tick) c.args.run.now.inputs c.requires.inputs)
