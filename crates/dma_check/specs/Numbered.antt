-- What is declared, by the numbers of things.
use Rattle.std.specs.Prelude.{ℕ, ◌==◌, Bool, nat_lt, length, if◌then◌else◌, List, [], Option, Some, None, option_and_then, option_map, slice_get, slice_index_or, position}
use Rattle.std.specs.List.{filter_map, find}
use Rattle.std.specs.Option.{option_map_or}
use Rattle.std.specs.Str.{bytes_eq}
use Rattle.dma_check.specs.Sources.{device_of}
use Rattle.dma_check.specs.declared.held.DmaWindow.{DmaWindow}
use Rattle.image_pack.specs.declared.parts.SpanPart.{SpanPart}
use Rattle.image_soundness.specs.Sound.{is_kernel}
use Rattle.muen_num.specs.Range.{numbers_below}
use Rattle.policy_lawful.specs.Dma.{domain_of}
use Rattle.policy_lawful.specs.source.Device.{Device}
use Rattle.policy_lawful.specs.source.Domain.{Domain}
use Rattle.policy_lawful.specs.source.Mapping.{Mapping}
use Rattle.policy_lawful.specs.source.Region.{Region}
use Rattle.policy_lawful.specs.source.Source.{Source}

-- the address of a span that isn't the kernel's
abbrev pub unless_kernel : SpanPart → Option ℕ
unless_kernel s = if is_kernel s.kind then None else Some s.address

-- .. of this number
abbrev pub address_of_number : List SpanPart → ℕ → Option ℕ
address_of_number spans number = option_and_then unless_kernel (find (λ s. s.number == number) spans)

-- those addresses, in the order of the numbers
unfoldable pub thing_addresses : List SpanPart → List ℕ
thing_addresses spans = filter_map (address_of_number spans) (numbers_below (length spans))

-- a window on the region that a mapping names, where the thing of its number has its address
abbrev pub window_at_number : List Region → List ℕ → Mapping → ℕ → Option DmaWindow
window_at_number regions addresses m k =
    option_map (λ (r : Region). record { guest = m.virtual_address; size = r.size; address = slice_index_or addresses k 0; rights = m.rights }) (slice_get regions k)

abbrev pub numbered_window : List Region → List ℕ → Mapping → Option DmaWindow
numbered_window regions addresses m = option_and_then (window_at_number regions addresses m) (position (λ (r : Region). bytes_eq r.name m.region) regions)

-- the domain in which the policy's device that is a source stands
abbrev pub domain_by : Source → ℕ → Option Domain
domain_by p source = option_and_then (λ (d : Device). domain_of p d.name) (device_of p source)

-- its windows
abbrev pub windows_by : Source → List ℕ → ℕ → List DmaWindow
windows_by p addresses source = option_map_or (λ (d : Domain). filter_map (numbered_window p.memory addresses) d.memory) (domain_by p source) []
