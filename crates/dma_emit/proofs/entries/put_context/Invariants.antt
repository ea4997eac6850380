use Rattle.std.proofs.Common.{◌≡◌, ◌++◌}
use Rattle.std.specs.List.{flat_map}
use Rattle.dma_emit.specs.Entries.{context_entry, wide_entry_bytes}
use Rattle.muen_num.specs.Range.{numbers_below}
use Rattle.dma_emit.proofs.entries.put_context.Given as goal

-- the entries so far
abbrev pub invariant-loop-devfn : goal.invariant-loop-devfn
invariant-loop-devfn l = l.out.items ≡ l.fn.out.items ++ flat_map (λ i. wide_entry_bytes (context_entry l.domains l.root l.bus i)) (numbers_below l.devfn)
