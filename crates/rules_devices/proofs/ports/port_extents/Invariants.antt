use Rattle.std.proofs.Common.{◌≡◌, map, take}
use Rattle.std.specs.List.{flat_map}
use Rattle.rules_devices.specs.Ranges.{port_extent}
use Rattle.rules_devices.proofs.ports.port_extents.Given as goal

abbrev pub invariant-loop-device : goal.invariant-loop-device
invariant-loop-device l = l.extents.items ≡ map port_extent (flat_map (λ d. d.io_ports) (take l.device-index l.devices))
