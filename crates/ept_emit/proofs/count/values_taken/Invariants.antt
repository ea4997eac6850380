-- A tally of the ranges so far.
use Rattle.ept_emit.proofs.Tallies.{Tallied}
use Rattle.ept_emit.proofs.count.values_taken.Given as goal

abbrev pub invariant-loop-range : goal.invariant-loop-range
invariant-loop-range l = Tallied l.ranges l.entry_size l.all l.next l.range-index
