use Rattle.std.proofs.Common.{◌∙◌}
use Rattle.rules_extents.proofs.InsideOne.{counted}
use Rattle.rules_extents.proofs.Ranges.{addresses_rise}
use Rattle.rules_extents.proofs.inside.count_inside.Goals as goal

pub count_in-requires-clause-rising : goal.count_in-requires-clause-rising
count_in-requires-clause-rising c = rw c.deref-then-are_below.ensures.value (addresses_rise c.in_ok-ranges.ranges.items (rw c.deref.ensures.value at (c.are_below.ensures.0 c.if-are_below.true)))

pub returns-then-are_below : goal.returns-then-are_below
returns-then-are_below c = (rw c.deref-then-are_below.ensures.value at c.count_in.ensures) ∙ counted c.args.blocks.now c.in_ok-ranges.ranges.items c.args.extents.now c.in_ok-ranges.ensures.moved

pub returns : goal.returns
returns c = (rw c.deref-2.ensures.value at c.count_in_any.ensures) ∙ counted c.args.blocks.now c.in_ok-ranges.ranges.items c.args.extents.now c.in_ok-ranges.ensures.moved
