use Rattle.std.proofs.Common.{◌≡◌, ◌++◌, take}
use Rattle.std.specs.List.{filter_map}
use Rattle.expand_grants.specs.ByIndex.{range_at}
use Rattle.expand_grants.proofs.ports.add_device.Given as goal

abbrev pub invariant-loop-index : goal.invariant-loop-index
invariant-loop-index l = l.ranges.items ≡ l.initial.ranges.items ++ filter_map (range_at l.devices l.used.device) (take l.index-index l.used.io_ports)
