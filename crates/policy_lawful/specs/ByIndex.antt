-- What a resolved policy says, by indexes.
use Rattle.std.specs.Prelude.{ℕ, ◌&&◌, Bool, List, [], length, nat_le, map, Option, Some, None, slice_get}
use Rattle.std.specs.Option.{option_map_or}
use Rattle.std.specs.List.{flat_map, sum_by}
use Rattle.muen_num.specs.declared.limits.TheConstants.{MOST_MINOR_FRAMES, MOST_TICKS}
use Rattle.policy_lawful.specs.Resolution.{Resolution}
use Rattle.policy_lawful.specs.declared.offence.Extent.{Extent}
use Rattle.policy_lawful.specs.declared.resolved.ComponentUse.{ComponentUse}
use Rattle.policy_lawful.specs.declared.resolved.CpuFrames.{CpuFrames}
use Rattle.policy_types.specs.declared.source.Block.{Block}
use Rattle.policy_types.specs.declared.source.Component.{Component}
use Rattle.policy_types.specs.declared.source.Device.{Device}
use Rattle.policy_types.specs.declared.source.DeviceMemory.{DeviceMemory}
use Rattle.policy_types.specs.declared.source.Provided.{Provided}

-- a block as a named range of physical memory
abbrev pub block_extent : Block → Extent
block_extent b = record { name = b.name; address = b.physical_address; size = b.size }

-- the ticks of an entry
abbrev pub ticks_in : CpuFrames → ℕ
ticks_in c = sum_by (λ f. f.ticks) c.minor_frames

-- an entry within the limits
abbrev pub is_short : CpuFrames → Bool
is_short c = nat_le (ticks_in c) MOST_TICKS && nat_le (length c.minor_frames) MOST_MINOR_FRAMES

-- what the component at a use's index brings along
abbrev pub provided_at : List Component → Option ComponentUse → List Provided
provided_at components None = []
provided_at components (Some used) = option_map_or (λ c. c.provides) (slice_get components used.used) []

-- what the component of the subject at an index brings along
abbrev pub brought_to : Resolution → ℕ → List Provided
brought_to r subject = option_map_or (λ s. provided_at r.components s.component) (slice_get r.subjects subject) []

-- each device's memory with the device's name, in order
abbrev pub memories_of : List Device → List (List ℕ × DeviceMemory)
memories_of devices = flat_map (λ d. map (λ m. (d.name, m)) d.memory) devices
