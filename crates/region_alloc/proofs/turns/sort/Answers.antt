use Rattle.std.proofs.Common.{ℕ, rules}
use Rattle.std.proofs.lemmas.List.Sorted.{answers_always}
use Rattle.std.specs.declared.cmp.Reverse.{Reverse}
use Rattle.expand_kernel.specs.thing.Region.{Region}
use Rattle.region_alloc.proofs.Sizes.{order_is}
use Rattle.region_alloc.proofs.turns.sort.Goals as goal

abbrev key : ℕ × Region → Reverse ℕ
key x = record { 0 = x.1.size }

pub returns : goal.returns
returns c =
    order_is (λ x. x.1.size) _ _
    (c.in_ok-sort_by_key.ensures.sorted key (answers_always _ _ _ (λ f a r g h. search rules)))
    (c.in_ok-sort_by_key.ensures.stable key (answers_always _ _ _ (λ f a r g h. search rules)))
