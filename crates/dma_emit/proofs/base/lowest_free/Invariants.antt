use Rattle.std.proofs.Common.{◌-◌}
use Rattle.dma_emit.proofs.LowestFree.{IsOnTheWay}
use Rattle.dma_emit.proofs.base.lowest_free.Given as goal
use Rattle.muen_num.specs.declared.limits.TheConstants.{PHYSICAL_END}

abbrev pub invariant-loop-extent : goal.invariant-loop-extent
invariant-loop-extent l = IsOnTheWay l.extents l.bytes l.base

abbrev pub decreases-loop-extent : goal.decreases-loop-extent
decreases-loop-extent l = PHYSICAL_END - l.base
