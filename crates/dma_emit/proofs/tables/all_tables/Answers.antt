use Rattle.std.proofs.Common.{ap, ◌∙◌, length, arith}
use Rattle.dma_emit.proofs.Lists.{length_pushed}
use Rattle.dma_emit.proofs.TablesOf.{one_more}
use Rattle.dma_emit.proofs.tables.all_tables.Goals as goal

pub loop-number-preserved : goal.loop-number-preserved
loop-number-preserved c =
    let more = ap length c.in_ok-push.ensures.items ∙ length_pushed c.loop-number.tables.items _ in
    record {
      many = omega (arith, more, c.loop-number.invariant.many);
      each = one_more c.args.domains.now c.args.root c.loop-number.number c.loop-number.tables.items _ _ c.loop-number.invariant.many c.loop-number.invariant.each c.in_ok-domain_tables.ensures c.in_ok-push.ensures.items;
    }
