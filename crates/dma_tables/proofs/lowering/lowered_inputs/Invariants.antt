-- What is known while the inputs are gone through.
use Rattle.std.proofs.Common.{◌≡◌, ◌++◌, flat_map}
use Rattle.std.specs.Prelude.{option_map}
use Rattle.dma_tables.specs.Lowered.{lowered_at}
use Rattle.dma_tables.proofs.lowering.lowered_inputs.Given as goal

abbrev pub invariant-loop-entry : goal.invariant-loop-entry
invariant-loop-entry l =
    l.effects.items ++ flat_map (lowered_at (option_map (λ t. t.now) l.tables) l.image) l.entry-iterator.rest.items ≡ flat_map (lowered_at (option_map (λ t. t.now) l.tables) l.image) l.fn.entries.items
