use Rattle.std.proofs.Common.{◌≡◌, ◌++◌, map, take}
use Rattle.rules_devices.specs.Ranges.{port_extent}
use Rattle.rules_devices.proofs.ports.push_ports.Given as goal

abbrev pub invariant-loop-range : goal.invariant-loop-range
invariant-loop-range l = l.extents.items ≡ l.initial.extents.items ++ map port_extent (take l.range-index l.ports)
