use Rattle.std.proofs.Common.{take}
use Rattle.std.specs.List.{list_any}
use Rattle.region_alloc.specs.Gaps.{IsLeast, fits_in_gap}
use Rattle.region_alloc.proofs.gaps.first_fit.Given as goal

abbrev pub invariant-loop-gap : goal.invariant-loop-gap
invariant-loop-gap l = IsLeast (λ a. list_any (λ g. fits_in_gap l.alignment l.size g a) (take l.gap-index l.gaps)) l.lowest
