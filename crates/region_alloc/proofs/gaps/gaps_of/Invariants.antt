use Rattle.std.proofs.Common.{◌≡◌, map, take}
use Rattle.region_alloc.specs.Gaps.{gap_of}
use Rattle.region_alloc.proofs.gaps.gaps_of.Given as goal

abbrev pub invariant-loop-block : goal.invariant-loop-block
invariant-loop-block l = l.gaps.items ≡ map gap_of (take l.block-index l.blocks)
