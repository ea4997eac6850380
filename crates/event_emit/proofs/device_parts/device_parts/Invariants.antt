use Rattle.std.proofs.Common.{◌≡◌, ◌+◌, ◌<◌, ◌^◌, ◌++◌, length, drop}
use Rattle.std.specs.List.{list_all, sum_by}
use Rattle.event_emit.specs.ByIndex.{device_parts}
use Rattle.event_emit.specs.Named.{is_named_device}
use Rattle.event_emit.proofs.device_parts.device_parts.Given as goal

abbrev pub invariant-loop-index : goal.invariant-loop-index
invariant-loop-index l =
    (l.parts ++ device_parts l.routes l.index l.next (drop l.index l.devices) ≡ device_parts l.routes 0 l.first l.devices)
    × (l.next + sum_by (λ d. length d.memory) (drop l.index l.devices) < 2 ^ 16)
    × (list_all is_named_device l.devices ≡ list_all is_named_device (drop l.index l.devices))
