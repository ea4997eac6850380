use Rattle.std.proofs.Common.{◌≡◌, ◌++◌, map, take}
use Rattle.std.specs.List.{flat_map}
use Rattle.rules_events.proofs.interrupts.add_devices.Given as goal

abbrev pub invariant-loop-device : goal.invariant-loop-device
invariant-loop-device l = l.vectors.items ≡ l.initial.vectors.items ++ flat_map (λ d. map (λ i. i.vector) d.irqs) (take l.device-index l.devices)
