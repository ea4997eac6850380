use Rattle.span_emit.proofs.InTurn.{device_made, device_small}
use Rattle.span_emit.proofs.by_number.push_devices.Goals as goal

pub push_memory-requires-clause-small : goal.push_memory-requires-clause-small
push_memory-requires-clause-small c =
    device_small _ c.args.devices.now c.loop-device.device-index c.device-item.result c.loop-device.spans.items c.loop-device-test.true c.device-item.is c.loop-device.invariant

pub loop-device-preserved : goal.loop-device-preserved
loop-device-preserved c =
    device_made _ c.args.devices.now c.loop-device.device-index c.device-item.result c.loop-device.spans.items c.loop-device-test.true c.device-item.is c.loop-device.invariant
    c.push_memory.new.spans.items c.in_ok-push_memory.ensures.spans c.in_ok-push_memory.ensures.named
