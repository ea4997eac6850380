-- The sort's key is the sum of the ends.
use Rattle.std.proofs.Common.{rules}
use Rattle.std.proofs.lemmas.List.Sorted.{IsNonDecreasingBy-from_sort_by_key}
use Rattle.rules_extents.specs.AddressRange.{sum_of_ends}
use Rattle.rules_extents.proofs.overlap.rising.Goals as goal

pub returns-clause-rising : goal.returns-clause-rising
returns-clause-rising c =
    IsNonDecreasingBy-from_sort_by_key sum_of_ends _ c.sort_unstable_by_key.ensures.sorted (λ a r q k. search rules)
