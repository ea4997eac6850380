use Rattle.std.proofs.Common.{◌≡◌, map, take}
use Rattle.policy_lawful.specs.Resolution.{source_of, subject_named}
use Rattle.device_flows.specs.Ends.{tells}
use Rattle.device_flows.proofs.rows.told_devices.Given as goal

abbrev pub invariant-loop-number : goal.invariant-loop-number
invariant-loop-number l = l.told.items ≡ map (tells (source_of l.policy) (subject_named l.policy l.subject)) (take l.number l.policy.devices)
