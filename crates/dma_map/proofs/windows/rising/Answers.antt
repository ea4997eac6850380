-- The sort's key is the address.
use Rattle.std.proofs.Common.{rules}
use Rattle.std.proofs.lemmas.List.Sorted.{IsNonDecreasingBy-from_sort_by_key}
use Rattle.dma_map.proofs.windows.rising.Goals as goal

pub returns-clause-rising : goal.returns-clause-rising
returns-clause-rising c =
    IsNonDecreasingBy-from_sort_by_key (λ w. w.addr) _ c.in_ok-sort_by_key.ensures.sorted (λ a r q k. search rules)
