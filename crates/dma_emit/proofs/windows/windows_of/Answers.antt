use Rattle.std.proofs.Common.{◌∙◌, subst}
use Rattle.std.specs.List.{filter_map}
use Rattle.std.specs.List.Sorted.{IsPermutation}
use Rattle.dma_emit.specs.Domains.{mapped, windows_of}
use Rattle.dma_emit.proofs.InOrder.{sorted_is}
use Rattle.dma_emit.proofs.windows.windows_of.Goals as goal

pub returns : goal.returns
unfolding windows_of
returns c =
    c.of.ensures
    ∙ sorted_is (filter_map (mapped c.args.placed.now) c.args.domain.now.memory) c.in_ok-rising.field-0.items c.requires
    (subst (λ ws. IsPermutation ws c.in_ok-rising.field-0.items) c.in_ok-windows.ensures c.in_ok-rising.ensures.moved) c.in_ok-rising.ensures.rising
