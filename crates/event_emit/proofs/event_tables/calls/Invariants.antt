use Rattle.std.proofs.Common.{◌≡◌, map}
use Rattle.event_emit.specs.ByIndex.{event_part_for_way}
use Rattle.event_emit.proofs.event_tables.calls.Given as goal
use Rattle.expand_grants.specs.declared.granted.Way.TheVariants.{Call}
use Rattle.muen_num.specs.Range.{numbers_below}

abbrev pub invariant-loop-number : goal.invariant-loop-number
invariant-loop-number l = l.table ≡ map (λ n. event_part_for_way l.entries (Call n)) (numbers_below l.number)
