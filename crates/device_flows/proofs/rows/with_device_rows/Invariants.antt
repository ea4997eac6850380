use Rattle.std.proofs.Common.{◌≡◌, ◌++◌, map, take}
use Rattle.device_flows.specs.ByIndex.{device_row}
use Rattle.device_flows.proofs.rows.with_device_rows.Given as goal

abbrev pub invariant-loop-number : goal.invariant-loop-number
invariant-loop-number l = l.rows.items ≡ l.fn.rows.items ++ map (device_row l.policy) (take l.number l.policy.devices)
