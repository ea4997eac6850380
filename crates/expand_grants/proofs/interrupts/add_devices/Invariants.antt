use Rattle.std.proofs.Common.{◌≡◌, ◌++◌, take}
use Rattle.std.specs.List.{flat_map}
use Rattle.expand_grants.specs.ByIndex.{device_routes}
use Rattle.expand_grants.proofs.interrupts.add_devices.Given as goal

abbrev pub invariant-loop-device : goal.invariant-loop-device
invariant-loop-device l = l.routes.items ≡ l.initial.routes.items ++ flat_map (device_routes l.subject) (take l.device-index l.devices)
