use Rattle.std.proofs.Common.{arith}
use Rattle.ept_emit.proofs.Tallies.{tally_below, tally_end, tally_start, tally_step}
use Rattle.ept_emit.proofs.count.values_taken.Goals as goal

pub loop-range-init : goal.loop-range-init
loop-range-init c = tally_start c.args.ranges.now c.args.entry_size c.requires.apart

pub overflow_sub-all : goal.overflow_sub-all
overflow_sub-all c = rw (c.max.ensures) (tally_below c.args.ranges.now c.args.entry_size c.loop-range.all c.loop-range.next c.loop-range.range-index _ c.requires.some c.loop-range.invariant c.loop-range-test.true c.requires.mapped)

pub loop-range-preserved : goal.loop-range-preserved
loop-range-preserved c = rw (c.max.ensures) (tally_step c.args.ranges.now c.args.entry_size c.loop-range.all c.loop-range.next c.loop-range.range-index _ c.requires.some c.loop-range.invariant c.loop-range-test.true c.requires.mapped)

pub returns-clause-value : goal.returns-clause-value
returns-clause-value c = tally_end c.args.ranges.now c.args.entry_size c.loop-range.all c.loop-range.next c.loop-range.range-index c.requires.some c.requires.whole c.loop-range.invariant (omega (arith, c.loop-range-test.false)) c.requires.apart c.requires.mapped
