use Rattle.std.proofs.Common.{◌≡◌, map}
use Rattle.event_emit.specs.ByIndex.{event_part_for_way}
use Rattle.event_emit.proofs.event_tables.traps.Given as goal
use Rattle.expand_grants.specs.declared.granted.Way.TheVariants.{Trap}
use Rattle.muen_num.specs.Range.{numbers_below}

abbrev pub invariant-loop-reason : goal.invariant-loop-reason
invariant-loop-reason l = l.table ≡ map (λ n. event_part_for_way l.entries (Trap n)) (numbers_below l.reason)
