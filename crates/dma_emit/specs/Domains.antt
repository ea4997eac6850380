-- The devices of a placed policy that stand in domains, and where the windows of domains lead (Intel VT-d specification:
-- domains, source identifiers).
use Rattle.std.specs.Prelude.{ℕ, ◌+◌, ◌*◌, Bool, nat_le, List, map, slice_index, position, Option, option_map, option_and_then}
use Rattle.std.specs.List.{filter_map, find, list_any}
use Rattle.std.specs.Option.{option_map_or}
use Rattle.std.specs.Str.{bytes_eq}
use Rattle.dma_emit.specs.declared.devices.DomainDevice.{DomainDevice}
use Rattle.dma_emit.specs.declared.domains.Domains.{Domains}
use Rattle.ept_emit.specs.declared.window.Leaf.TheVariants.{Small}
use Rattle.ept_emit.specs.declared.window.Window.{Window}
use Rattle.expand_kernel.specs.Ordered.{in_order}
use Rattle.muen_num.specs.declared.limits.TheConstants.{BDF_FUNCTIONS}
use Rattle.policy_lawful.specs.Resolution.{source_of}
use Rattle.policy_lawful.specs.rights.Caching.TheVariants.{Uc}
use Rattle.policy_lawful.specs.source.Bdf.{Bdf}
use Rattle.policy_lawful.specs.source.Device.{Device}
use Rattle.policy_lawful.specs.source.Domain.{Domain}
use Rattle.policy_lawful.specs.source.Mapping.{Mapping}
use Rattle.policy_lawful.specs.source.Region.{Region}
use Rattle.policy_lawful.specs.source.Source.{Source}
use Rattle.region_alloc.specs.Placed.{Placement}

-- ---- devices

-- a device by its number on its bus and the number of its function
abbrev pub devfn_of : Bdf → ℕ
devfn_of b = BDF_FUNCTIONS * b.device + b.function

-- the number of the domain that the device of this name stands in
abbrev pub domain_number : Source → List ℕ → Option ℕ
domain_number p device = position (λ d. list_any (λ name. bytes_eq name device) d.devices) p.device_domains

-- a device at these numbers, in the domain of a number
abbrev pub device_at : Device → Bdf → ℕ → DomainDevice
device_at d b number = record { device = record { name = d.name; bus = b.bus; devfn = devfn_of b }; domain = number }

-- a device, if it stands in a domain
abbrev pub domain_device : Source → Device → Option DomainDevice
domain_device p d = option_and_then (λ b. option_map (device_at d b) (domain_number p d.name)) d.bdf

-- those that do, in the order of the policy's devices
unfoldable pub domain_devices : Source → List DomainDevice
domain_devices p = filter_map (domain_device p) p.devices

-- ---- windows

-- the physical address of the region of this name
abbrev pub region_address_of : Placement → List ℕ → ℕ
region_address_of x name = option_map_or (slice_index x.addresses) (position (λ r. bytes_eq r.name name) x.expanded.lawful.memory) 0

-- a window of a domain on a region, mapped by pages of 4 KiB; in second-level tables the bits of a memory type are zero
abbrev pub region_mapped : Placement → Mapping → Region → Window
region_mapped x m r =
    record { guest = m.virtual_address; size = r.size; address = region_address_of x m.region; rights = m.rights; caching = Uc; leaf = Small }

abbrev pub mapped : Placement → Mapping → Option Window
mapped x m = option_map (region_mapped x m) (find (λ r. bytes_eq r.name m.region) x.expanded.lawful.memory)

abbrev pub is_lower_window : Window → Window → Bool
is_lower_window a b = nat_le a.guest b.guest

-- those of a domain, by ascending address
unfoldable pub windows_of : Placement → Domain → List Window
windows_of x d = in_order is_lower_window (filter_map (mapped x) d.memory)

-- ---- both, of a placed policy

abbrev pub domains_of : Placement → Domains
domains_of x = record {
  devices = domain_devices (source_of x.expanded.lawful);
  windows = map (windows_of x) x.expanded.lawful.device_domains;
}
