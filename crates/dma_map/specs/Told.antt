-- What the windows of devices tell.
use Rattle.std.specs.Prelude.{◌≡◌, ℕ, ◌+◌, ◌<◌, ◌≤◌, ◌⊎◌, if◌then◌else◌, List, Option, Some, None, Ok, slice_get}
use Rattle.std.specs.List.{All, AllPairs}
use Rattle.dma_emit.specs.Reached.{placed_at}
use Rattle.dma_map.specs.DmaMapText.{dma_map_text_of, rising_windows, thing_address, windows_text}
use Rattle.muen_num.specs.declared.access.AccessKind.{AccessKind}
use Rattle.policy_lawful.specs.Dma.{dma_access}
use Rattle.policy_lawful.specs.Resolution.{source_of}
use Rattle.policy_lawful.specs.Rights.{allows}
use Rattle.policy_lawful.specs.Thing.{Thing}
use Rattle.policy_lawful.specs.Windows.{Window}
use Rattle.region_alloc.specs.Placed.{Placement}
use Rattle.region_alloc.specs.Placement.{placement_of}
use Rattle.dma_map.specs.declared.window.DeviceWindow.{DeviceWindow}

-- where an access of a device ends, by what the policy declares
abbrev pub declared_at : Placement → List ℕ → ℕ → AccessKind → Option ℕ
declared_at x device addr kind = placed_at x (dma_access (source_of x.expanded.lawful) device addr kind)

-- each window of a device ends before the next one begins
abbrev pub RiseApart : Placement → Type 0
RiseApart x = (device : List ℕ) → AllPairs (λ a b. a.guest + a.size ≤ b.guest) (rising_windows x device)

-- through each window an access goes to the physical address that is told for it, where its rights allow that
abbrev pub LeadAsTold : Placement → Type 0
LeadAsTold x =
    (device : List ℕ) (k offset : ℕ) (w : Window Thing) (kind : AccessKind) → slice_get (rising_windows x device) k ≡ Some w → offset < w.size
    → declared_at x device (w.guest + offset) kind ≡ (if allows w.rights kind then Some (thing_address x w.thing + offset) else None)

-- no window shows the address
abbrev pub IsOutside : ℕ → Window Thing → Type 0
IsOutside addr w = (addr < w.guest) ⊎ (w.guest + w.size ≤ addr)

-- by an address that is in none of them nothing is reached
abbrev pub LeadNowhereElse : Placement → Type 0
LeadNowhereElse x = (device : List ℕ) (addr : ℕ) (kind : AccessKind) → All (IsOutside addr) (rising_windows x device) → declared_at x device addr kind ≡ None

-- the text of these windows follows from the policy and from where its regions lie
abbrev pub HaveTextOf : Placement → List DeviceWindow → Type 0
HaveTextOf x windows =
    (addresses : List ℕ) → placement_of (source_of x.expanded.lawful) ≡ Ok addresses → windows_text windows ≡ dma_map_text_of (source_of x.expanded.lawful) addresses
