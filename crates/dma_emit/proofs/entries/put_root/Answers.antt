use Rattle.std.proofs.Common.{◌+◌, ◌++◌, length, sym, ap, ◌∙◌, refl, arith}
use Rattle.dma_emit.specs.Entries.{wide_entry_bytes, root_entry}
use Rattle.dma_emit.specs.Layout.{on_bus}
use Rattle.dma_emit.proofs.Layouts.{before_all, contexts_first}
use Rattle.dma_emit.proofs.Lists.{filter_fails_next, filter_passes_next, flat_step, length_pushed}
use Rattle.dma_emit.proofs.Words.{table_is}
use Rattle.dma_emit.proofs.entries.put_root.Goals as goal
use Rattle.dma_emit.proofs.entries.put_root.Goals.{then-on_bus, else-on_bus}

pub root_entry-requires-clause-small : goal.root_entry-requires-clause-small
root_entry-requires-clause-small c =
    let first = contexts_first c.args.domains.now c.loop-bus.bus (omega arith) in
    let all = before_all c.args.domains.now 0 (omega arith) in
    omega (arith, c.loop-bus.invariant.next, c.requires)

pub loop-bus-preserved : goal.loop-bus-preserved
loop-bus-preserved c =
    let d = c.args.domains.now in
    let n = c.loop-bus.bus in
    let bytes = flat_step (λ i. wide_entry_bytes (root_entry d c.args.root i)) n (n + 1) c.args.out.now.items c.loop-bus.out.items c.put_entry.new.out.items refl c.loop-bus.invariant.bytes
    (c.in_ok-put_entry.ensures ∙ ap (λ e. c.loop-bus.out.items ++ wide_entry_bytes e) c.root_entry.ensures) in
    elim c.if-on_bus.branch [
      | then-on_bus w ↦
          let more = ap length (filter_passes_next (on_bus d) n (n + 1) refl (sym c.on_bus.ensures ∙ w.if-on_bus.true)) ∙ length_pushed _ n in
          record { next = omega (arith, c.loop-bus.invariant.next); bytes = bytes }
      | else-on_bus w ↦
          let same = ap length (filter_fails_next (on_bus d) n (n + 1) refl (sym c.on_bus.ensures ∙ w.if-on_bus.false)) in
          record { next = omega (arith, c.loop-bus.invariant.next); bytes = bytes }
    ]

pub returns : goal.returns
returns c =
    c.loop-bus.invariant.bytes ∙ ap (λ t. c.args.out.now.items ++ t) (sym (table_is (root_entry c.args.domains.now c.args.root) c.loop-bus.bus (omega arith)))
