use Rattle.std.proofs.Common.{◌≡◌, map}
use Rattle.muen_num.specs.Range.{numbers_below}
use Rattle.region_alloc.specs.Placement.{address_in}
use Rattle.region_alloc.proofs.allocate.by_number.Given as goal

abbrev pub invariant-loop-number : goal.invariant-loop-number
invariant-loop-number l = l.addresses ≡ map (address_in l.spots) (numbers_below l.number)
