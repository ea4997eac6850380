use Rattle.std.proofs.Common.{◌≡◌, take}
use Rattle.std.specs.List.{flat_map}
use Rattle.region_alloc.specs.Gaps.{remaining_of}
use Rattle.region_alloc.proofs.gaps.remaining_of.Given as goal

abbrev pub invariant-loop-gap : goal.invariant-loop-gap
invariant-loop-gap l = l.remaining.items ≡ flat_map (remaining_of l.spot) (take l.gap-index l.gaps)
