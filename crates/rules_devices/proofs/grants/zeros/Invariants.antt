use Rattle.std.proofs.Common.{◌≡◌, length, map, replicate, take}
use Rattle.rules_devices.specs.Grants.{part_names}
use Rattle.rules_devices.proofs.grants.zeros.Given as goal

abbrev pub invariant-loop-device : goal.invariant-loop-device
invariant-loop-device l = l.table.items ≡ map (λ d. replicate (length (part_names l.resource d)) 0) (take l.device-index l.devices)
