-- The closure tests the address.
use Rattle.std.proofs.Common.{rules}
use Rattle.std.specs.Prelude.{nat_le}
use Rattle.std.proofs.lemmas.Bool.{leb-true}
use Rattle.std.proofs.lemmas.List.Sorted.{IsPartitionPoint-from_clause}
use Rattle.rules_extents.proofs.InsideOne.{above, divided}
use Rattle.rules_extents.proofs.inside.count_before.Goals as goal

pub returns-clause-before : goal.returns-clause-before
returns-clause-before c k d low l =
    let point = IsPartitionPoint-from_clause (λ s. nat_le s.address c.args.address) c.args.ranges.now c.partition_point.result c.partition_point.ensures.partitioned (divided c.args.ranges.now c.args.address c.requires) (λ a r g h. search rules) in
    leb-true _ _ (point.0 k d low l)

pub returns-clause-behind : goal.returns-clause-behind
returns-clause-behind c k d low l =
    let point = IsPartitionPoint-from_clause (λ s. nat_le s.address c.args.address) c.args.ranges.now c.partition_point.result c.partition_point.ensures.partitioned (divided c.args.ranges.now c.args.address c.requires) (λ a r g h. search rules) in
    above _ _ (point.1 k d low l)
