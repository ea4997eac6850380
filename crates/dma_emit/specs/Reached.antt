-- Where in physical memory an access of a device ends, by what the policy declares.
use Rattle.std.specs.Prelude.{ℕ, ◌+◌, Bool, if◌then◌else◌, Option, Some, None, ◌≡◌, List}
use Rattle.dma_emit.specs.Domains.{region_address_of}
use Rattle.muen_num.specs.declared.access.AccessKind.{AccessKind}
use Rattle.muen_num.specs.declared.access.AccessKind.TheVariants.{Read, Write}
use Rattle.policy_lawful.specs.Thing.{Thing, region, channel, provided, device_memory, state}
use Rattle.policy_lawful.specs.Windows.{Access, byte, violation}
use Rattle.region_alloc.specs.Placed.{Placement}
use Rattle.dma_tables.specs.DmaWalk.{dma_walk}
use Rattle.dma_tables.specs.declared.file.DmaFile.{DmaFile}
use Rattle.policy_lawful.specs.Dma.{dma_access}
use Rattle.policy_lawful.specs.Resolution.{source_of}

-- the address of a byte of a thing, which is a region: domains have windows on nothing else
abbrev pub thing_byte_address : Placement → Thing → ℕ → Option ℕ
thing_byte_address x (region name) offset = Some (region_address_of x name + offset)
thing_byte_address x (channel name) offset = None
thing_byte_address x (provided subject logical) offset = None
thing_byte_address x (device_memory device memory) offset = None
thing_byte_address x (state subject) offset = None

-- the address of what an access touches
abbrev pub placed_at : Placement → Access Thing → Option ℕ
placed_at x (byte thing offset) = thing_byte_address x thing offset
placed_at x (violation found) = None

-- the kind of an access of a device
abbrev pub device_access_kind : Bool → AccessKind
device_access_kind write = if write then Write else Read

-- each device is led where the policy declares it, and nowhere else
abbrev pub LeadAsDeclared : Placement → DmaFile → Type 0
LeadAsDeclared x t =
    (device : List ℕ) (addr : ℕ) (write : Bool) → dma_walk t device addr write ≡ placed_at x (dma_access (source_of x.expanded.lawful) device addr (device_access_kind write))
