-- The memory of the devices so far.
use Rattle.std.proofs.Common.{◌≡◌, take}
use Rattle.rules_extents.specs.Windows.{device_extents}
use Rattle.rules_extents.proofs.apart.device_extents.Given as goal

abbrev pub invariant-loop-device : goal.invariant-loop-device
invariant-loop-device l = l.extents.items ≡ device_extents (take l.device-index l.devices)
