use Rattle.std.proofs.Common.{◌≡◌, take}
use Rattle.std.specs.List.{flat_map}
use Rattle.dma_map.specs.DmaMapText.{windows_shown}
use Rattle.dma_map.proofs.windows.windows_of.Given as goal

-- the windows of the devices so far
abbrev pub invariant-loop-device : goal.invariant-loop-device
invariant-loop-device l = l.windows.items ≡ flat_map (λ d. windows_shown l.placed d.name) (take l.device-index l.devices)
