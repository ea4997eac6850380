use Rattle.std.proofs.Common.{◌≡◌, ◌++◌}
use Rattle.std.specs.List.{flat_map}
use Rattle.dma_emit.specs.Entries.{context_entry, table_bytes}
use Rattle.dma_emit.specs.Layout.{buses_below}
use Rattle.dma_emit.proofs.entries.put_contexts.Given as goal

-- the tables so far
abbrev pub invariant-loop-bus : goal.invariant-loop-bus
invariant-loop-bus l = l.out.items ≡ l.fn.out.items ++ flat_map (λ bus. table_bytes (context_entry l.domains l.root bus)) (buses_below l.domains l.bus)
