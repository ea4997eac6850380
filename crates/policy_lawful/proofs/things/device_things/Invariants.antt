-- What is known while the devices are gone through.
use Rattle.std.proofs.Common.{◌≡◌, take}
use Rattle.std.specs.List.{flat_map}
use Rattle.policy_lawful.specs.Things.{device_things_of}
use Rattle.policy_lawful.proofs.things.device_things.Given as goal

abbrev pub invariant-loop-device : goal.invariant-loop-device
invariant-loop-device l = l.things.items ≡ flat_map device_things_of (take l.device-index l.policy.devices)
