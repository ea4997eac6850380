use Rattle.region_alloc.proofs.Placing.{Placing}
use Rattle.region_alloc.proofs.allocate.place_each.Given as goal

abbrev pub invariant-loop-number : goal.invariant-loop-number
invariant-loop-number l = Placing l.blocks l.turns l.number-index l.gaps.items l.spots.items
