use Rattle.std.proofs.Common.{◌≡◌, map, take}
use Rattle.event_emit.specs.ByIndex.{port_span}
use Rattle.event_emit.proofs.device_parts.port_spans.Given as goal

abbrev pub invariant-loop-range : goal.invariant-loop-range
invariant-loop-range l = l.spans ≡ map port_span (take l.range-index l.ports)
