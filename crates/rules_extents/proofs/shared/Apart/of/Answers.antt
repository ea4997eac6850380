use Rattle.rules_extents.proofs.Ranges.{addresses_rise}
use Rattle.rules_extents.proofs.shared.Apart.of.Goals as goal

pub invariant_of-result : goal.invariant_of-result
invariant_of-result c =
    let below = rw c.deref.ensures.value at (c.are_below.ensures.0 c.if-are_below.true) in
    (addresses_rise c.in_ok-ranges.ranges.items below, below)
