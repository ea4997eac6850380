use Rattle.std.proofs.Common.{◌≡◌, ◌++◌, map, take}
use Rattle.std.specs.List.{flat_map}
use Rattle.dma_emit.proofs.base.extents_of.Given as goal

-- the ranges so far
abbrev pub invariant-loop-device : goal.invariant-loop-device
invariant-loop-device l = l.extents.items ≡ l.initial.extents.items ++ flat_map (λ d. map (λ m. record { name = m.name; address = m.physical_address; size = m.size }) d.memory) (take l.device-index l.device-items)
