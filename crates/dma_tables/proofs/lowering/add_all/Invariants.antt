-- What is known while the effects are appended.
use Rattle.std.proofs.Common.{◌≡◌, ◌++◌, map}
use Rattle.dma_tables.specs.Lowered.{in_tick}
use Rattle.dma_tables.proofs.lowering.add_all.Given as goal

abbrev pub invariant-loop-effect : goal.invariant-loop-effect
invariant-loop-effect l = l.effects.items ++ map (in_tick l.tick) l.effect-iterator.rest.items ≡ l.fn.effects.items ++ map (in_tick l.tick) l.fn.added.items
