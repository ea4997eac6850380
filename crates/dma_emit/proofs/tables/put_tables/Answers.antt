use Rattle.std.proofs.Common.{◌++◌, ap, ◌∙◌}
use Rattle.dma_emit.proofs.Lists.{concat_step}
use Rattle.dma_emit.proofs.tables.put_tables.Goals as goal

pub loop-of_domain-preserved : goal.loop-of_domain-preserved
loop-of_domain-preserved c =
    concat_step c.args.tables.now c.loop-of_domain.of_domain-index c.of_domain-item.result c.args.out.now.items c.loop-of_domain.out.items c.extend_from_slice.new.self.items
    c.loop-of_domain-test.true c.of_domain-item.is c.loop-of_domain.invariant (c.in_ok-extend_from_slice.ensures.items ∙ ap (λ t. c.loop-of_domain.out.items ++ t) c.items.ensures)
