use Rattle.std.proofs.Common.{◌≡◌, All, map, take}
use Rattle.dma_tables.specs.DmaConditions.{IsDmaDevice}
use Rattle.dma_emit.proofs.device_list.listed.Given as goal

-- the devices so far
abbrev pub invariant-loop-device : goal.invariant-loop-device
invariant-loop-device l = record {
  value : l.devices ≡ map (λ v. v.device) (take l.device-index l.device-items);
  are : All IsDmaDevice l.devices;
}
