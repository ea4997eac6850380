-- What a device may reach in memory by itself (Muen system policy: device domains, in this project's profile; Intel VT-d
-- specification: domains).
use Rattle.std.specs.Prelude.{ℕ, List, [], Option}
use Rattle.std.specs.Option.{option_map_or}
use Rattle.std.specs.List.{find, filter_map, list_any}
use Rattle.std.specs.Str.{bytes_eq}
use Rattle.muen_num.specs.declared.access.AccessKind.{AccessKind}
use Rattle.policy_meaning.specs.Thing.{Thing}
use Rattle.policy_meaning.specs.Windows.{Access, Window, access_of, region_window}
use Rattle.policy_types.specs.declared.source.Domain.{Domain}
use Rattle.policy_types.specs.declared.source.Source.{Source}

-- the domain that a device stands in
abbrev pub domain_of : Source → List ℕ → Option Domain
domain_of p device = find (λ d. list_any (λ name. bytes_eq name device) d.devices) p.device_domains

-- the windows of a domain, in order, each on a region; their addresses are the devices'
abbrev pub domain_windows : Source → Domain → List (Window Thing)
domain_windows p d = filter_map (λ m. region_window p m.region m.virtual_address m.rights) d.memory

-- those of a device: without a domain it has none
abbrev pub dma_windows : Source → List ℕ → List (Window Thing)
dma_windows p device = option_map_or (domain_windows p) (domain_of p device) []

-- what a device may touch by an address of its own
abbrev pub dma_access : Source → List ℕ → ℕ → AccessKind → Access Thing
dma_access p device address kind = access_of (dma_windows p device) address kind
