use Rattle.std.proofs.Common.{◌≡◌, take}
use Rattle.std.specs.List.{flat_map}
use Rattle.expand_grants.specs.ByIndex.{ranges_at}
use Rattle.expand_grants.proofs.ports.port_ranges.Given as goal

abbrev pub invariant-loop-used : goal.invariant-loop-used
invariant-loop-used l = l.ranges.items ≡ flat_map (ranges_at l.devices) (take l.used-index l.uses)
