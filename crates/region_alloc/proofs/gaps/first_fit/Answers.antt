use Rattle.std.proofs.Common.{arith}
use Rattle.region_alloc.specs.Gaps.{fits_in_gap}
use Rattle.region_alloc.proofs.Least.{least_all, least_more}
use Rattle.region_alloc.proofs.gaps.first_fit.Goals as goal

pub loop-gap-preserved : goal.loop-gap-preserved
loop-gap-preserved c =
    least_more (fits_in_gap c.args.alignment c.args.size) c.args.gaps.now c.loop-gap.gap-index _ c.loop-gap.lowest c.first_fit.result c.lower-lowest.result (omega arith) c.lower-lowest.ensures c.loop-gap.invariant c.first_fit.ensures

pub returns : goal.returns
returns c =
    least_all (fits_in_gap c.args.alignment c.args.size) c.args.gaps.now c.loop-gap.gap-index c.loop-gap.lowest (omega arith) c.loop-gap.invariant
