use Rattle.std.proofs.Common.{ap, arith, rules}
use Rattle.map_report.specs.ByNumber.{memory_line}
use Rattle.muen_outside.proofs.Buffered.{item_exit}
use Rattle.map_report.proofs.report.put_devices.Goals as goal

pub returns-in_err-put_device : goal.returns-in_err-put_device
returns-in_err-put_device g c = (
  search rules,
  item_exit memory_line c.args.things.now c.loop-thing.thing-index c.thing-item.result _ _ _ _ _ c.from_residual.ensures.0 c.loop-thing.invariant.1 c.in_err-put_device.ensures.1 (omega arith)
      (ap memory_line c.thing-item.is),
)
