use Rattle.std.proofs.Common.{◌+◌, ◌++◌, sym, ap, ◌∙◌, refl, arith}
use Rattle.dma_emit.specs.Entries.{context_entry, wide_entry_bytes}
use Rattle.dma_emit.proofs.Lists.{flat_step}
use Rattle.dma_emit.proofs.Words.{table_is}
use Rattle.dma_emit.proofs.entries.put_context.Goals as goal

pub loop-devfn-preserved : goal.loop-devfn-preserved
loop-devfn-preserved c =
    flat_step (λ i. wide_entry_bytes (context_entry c.args.domains.now c.args.root c.args.bus i)) c.loop-devfn.devfn (c.loop-devfn.devfn + 1) c.args.out.now.items c.loop-devfn.out.items c.put_entry.new.out.items
    refl c.loop-devfn.invariant (c.in_ok-put_entry.ensures ∙ ap (λ e. c.loop-devfn.out.items ++ wide_entry_bytes e) c.context_entry.ensures)

pub returns : goal.returns
returns c =
    c.loop-devfn.invariant
    ∙ ap (λ t. c.args.out.now.items ++ t) (sym (table_is (context_entry c.args.domains.now c.args.root c.args.bus) c.loop-devfn.devfn (omega arith)))
