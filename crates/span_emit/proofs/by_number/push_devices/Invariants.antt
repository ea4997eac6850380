-- What is known while the devices are gone through.
use Rattle.std.proofs.Common.{◌++◌, drop, length}
use Rattle.span_emit.specs.Spans.{device_spans}
use Rattle.policy_lawful.specs.ByIndex.{memories_of}
use Rattle.span_emit.proofs.InTurn.{Memories}
use Rattle.span_emit.proofs.by_number.push_devices.Given as goal

abbrev pub invariant-loop-device : goal.invariant-loop-device
invariant-loop-device l =
    Memories (l.fn.spans.items ++ device_spans (length l.fn.spans.items) l.devices) (memories_of (drop l.device-index l.devices)) l.spans.items
