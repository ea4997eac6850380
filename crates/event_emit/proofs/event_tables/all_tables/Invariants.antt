use Rattle.std.proofs.Common.{◌≡◌, map, take}
use Rattle.event_emit.specs.ByIndex.{event_tables_of}
use Rattle.event_emit.proofs.event_tables.all_tables.Given as goal

abbrev pub invariant-loop-granted : goal.invariant-loop-granted
invariant-loop-granted l = l.tables ≡ map event_tables_of (take l.granted-index l.grants)
