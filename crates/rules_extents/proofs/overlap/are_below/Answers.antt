-- The test of neighbours is that of the addresses.
use Rattle.std.proofs.Common.{rules, ◌+◌, leb}
use Rattle.std.proofs.lemmas.List.Sorted.{answers_always}
use Rattle.rules_extents.proofs.Ranges.{below_is}
use Rattle.rules_extents.proofs.overlap.are_below.Goals as goal

pub returns : goal.returns
returns c =
    below_is c.args.ranges.now c.is_sorted_by.result (c.is_sorted_by.ensures.cases (λ a b. leb (a.address + a.size) b.address) (answers_always _ _ _ (λ f a r g h. search rules)))
