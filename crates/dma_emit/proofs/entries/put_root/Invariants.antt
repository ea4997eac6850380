use Rattle.std.proofs.Common.{◌≡◌, ◌+◌, ◌++◌}
use Rattle.std.specs.List.{flat_map}
use Rattle.dma_emit.specs.Entries.{wide_entry_bytes, root_entry}
use Rattle.dma_emit.specs.Layout.{context_page}
use Rattle.muen_num.specs.Range.{numbers_below}
use Rattle.dma_emit.proofs.entries.put_root.Given as goal

-- the entries so far, and the page of the next context table
abbrev pub invariant-loop-bus : goal.invariant-loop-bus
invariant-loop-bus l = record {
  next : l.next ≡ l.root + context_page l.domains l.bus;
  bytes : l.out.items ≡ l.fn.out.items ++ flat_map (λ i. wide_entry_bytes (root_entry l.domains l.root i)) (numbers_below l.bus);
}
