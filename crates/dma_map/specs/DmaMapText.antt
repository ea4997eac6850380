-- Where the devices of a placed policy reach memory by themselves, and what is printed of it (this project's own).
use Rattle.std.specs.Prelude.{ℕ, List, ◌++◌, codes, map, position, slice_index, unwrap_or}
use Rattle.std.specs.List.{flat_map}
use Rattle.std.specs.Option.{option_map_or}
use Rattle.std.specs.Str.{bytes_eq}
use Rattle.dma_emit.specs.Reached.{thing_byte_address}
use Rattle.expand_kernel.specs.Grants.{is_lower}
use Rattle.expand_kernel.specs.Ordered.{in_order}
use Rattle.map_report.specs.MapText.{rights_text}
use Rattle.muen_num.specs.Fixed.{hex16}
use Rattle.muen_num.specs.Tag.{tag_text}
use Rattle.policy_lawful.specs.Dma.{dma_windows}
use Rattle.policy_lawful.specs.Resolution.{source_of}
use Rattle.policy_lawful.specs.Thing.{Thing, region, channel, provided, device_memory, state, thing_tag}
use Rattle.policy_lawful.specs.Windows.{Window}
use Rattle.policy_lawful.specs.source.Source.{Source}
use Rattle.region_alloc.specs.Placed.{Placement}
use Rattle.dma_map.specs.declared.window.DeviceWindow.{DeviceWindow}

-- ---- windows

-- where a thing begins; domains have windows on regions alone
abbrev pub thing_address : Placement → Thing → ℕ
thing_address x thing = unwrap_or (thing_byte_address x thing 0) 0

-- a window of the device of this name
abbrev pub window_shown : Placement → List ℕ → Window Thing → DeviceWindow
window_shown x device w = record {
  device = device;
  addr = w.guest;
  physical = thing_address x w.thing;
  size = w.size;
  rights = w.rights;
  region = thing_tag w.thing;
}

-- what the device may reach, by ascending address
unfoldable pub rising_windows : Placement → List ℕ → List (Window Thing)
rising_windows x device = in_order is_lower (dma_windows (source_of x.expanded.lawful) device)

abbrev pub windows_shown : Placement → List ℕ → List DeviceWindow
windows_shown x device = map (window_shown x device) (rising_windows x device)

-- of each device in the policy's order; one in no domain has none
unfoldable pub device_windows : Placement → List DeviceWindow
device_windows x = flat_map (λ d. windows_shown x d.name) x.expanded.lawful.devices

-- ---- the text

-- a device, an address of its own, the physical address, a size in bytes, rights, the name of what is shown
unfoldable pub window_line : DeviceWindow → List ℕ
window_line w =
    codes "window " ++ w.device ++ codes " " ++ hex16 w.addr ++ codes " " ++ hex16 w.physical ++ codes " " ++ hex16 w.size ++ codes " " ++ rights_text w.rights ++ codes " " ++ tag_text w.region ++ codes "\n"

unfoldable pub windows_text : List DeviceWindow → List ℕ
windows_text windows = flat_map window_line windows

-- ---- the text by a policy and where its regions lie

-- where a region of this policy begins, if its regions lie at these addresses, by number; domains have windows on regions alone
abbrev pub begins_at : Source → List ℕ → Thing → ℕ
begins_at p addresses (region name) = option_map_or (slice_index addresses) (position (λ r. bytes_eq r.name name) p.memory) 0
begins_at p addresses (channel name) = 0
begins_at p addresses (provided subject logical) = 0
begins_at p addresses (device_memory device memory) = 0
begins_at p addresses (state subject) = 0

abbrev pub shown_at : Source → List ℕ → List ℕ → Window Thing → DeviceWindow
shown_at p addresses device w = record {
  device = device;
  addr = w.guest;
  physical = begins_at p addresses w.thing;
  size = w.size;
  rights = w.rights;
  region = thing_tag w.thing;
}

-- of each device in the policy's order, by ascending address
unfoldable pub dma_map_text_of : Source → List ℕ → List ℕ
dma_map_text_of p addresses = windows_text (flat_map (λ d. map (shown_at p addresses d.name) (in_order is_lower (dma_windows p d.name))) p.devices)
