use Rattle.std.proofs.Common.{◌+◌, ◌++◌, sym, ap, ◌∙◌, refl, arith}
use Rattle.std.specs.List.{flat_map}
use Rattle.dma_emit.specs.Entries.{context_entry, table_bytes}
use Rattle.dma_emit.specs.Layout.{on_bus}
use Rattle.dma_emit.proofs.Layouts.{buses_are}
use Rattle.dma_emit.proofs.Lists.{filter_stays, filter_step}
use Rattle.dma_emit.proofs.entries.put_contexts.Goals as goal
use Rattle.dma_emit.proofs.entries.put_contexts.Goals.{then-on_bus+in_ok-put_context, else-on_bus}

pub loop-bus-preserved : goal.loop-bus-preserved
loop-bus-preserved c =
    let d = c.args.domains.now in
    let n = c.loop-bus.bus in
    elim c.if-on_bus.branch [
      | then-on_bus+in_ok-put_context w ↦
          filter_step (on_bus d) (λ bus. table_bytes (context_entry d c.args.root bus)) n (n + 1) c.args.out.now.items c.loop-bus.out.items c.if-on_bus.out.items refl
          (sym c.on_bus.ensures ∙ w.if-on_bus.true) c.loop-bus.invariant (ap (λ v. v.items) w.out-is ∙ w.in_ok-put_context.ensures)
      | else-on_bus w ↦
          ap (λ v. v.items) w.out-is
          ∙ filter_stays (on_bus d) (λ bus. table_bytes (context_entry d c.args.root bus)) n (n + 1) c.args.out.now.items c.loop-bus.out.items refl
          (sym c.on_bus.ensures ∙ w.if-on_bus.false) c.loop-bus.invariant
    ]

pub returns : goal.returns
returns c =
    let d = c.args.domains.now in
    c.loop-bus.invariant
    ∙ ap (λ ks. c.args.out.now.items ++ flat_map (λ bus. table_bytes (context_entry d c.args.root bus)) ks) (sym (buses_are d c.loop-bus.bus (omega arith)))
