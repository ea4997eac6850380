use Rattle.std.proofs.Common.{◌∙◌}
use Rattle.expand_grants.specs.ByIndex.{range_at}
use Rattle.expand_grants.proofs.Mapped.{pushed_more}
use Rattle.expand_grants.proofs.ports.add_device.Goals as goal

pub loop-index-preserved : goal.loop-index-preserved
loop-index-preserved c =
    c.in_ok-push_some.ensures
    ∙ pushed_more (range_at c.args.devices.now c.args.used.now.device) c.args.ranges.now.items c.args.used.now.io_ports _ c.loop-index.index-index 0 c.loop-index.ranges.items c.range_at.result
    c.items-index-items.ensures c.loop-index-test.true c.loop-index.invariant c.range_at.ensures
