-- A window of a domain, as a device sees it.
use Rattle.std.specs.Prelude.{ℕ, List, Option, option_map}
use Rattle.dma_map.specs.DmaMapText.{window_shown}
use Rattle.dma_map.specs.declared.window.DeviceWindow.{DeviceWindow}
use Rattle.policy_lawful.specs.Resolution.{source_of}
use Rattle.policy_lawful.specs.Windows.{region_window}
use Rattle.policy_lawful.specs.source.Mapping.{Mapping}
use Rattle.region_alloc.specs.Placed.{Placement}

abbrev pub row : Placement → List ℕ → Mapping → Option DeviceWindow
row x device m = option_map (window_shown x device) (region_window (source_of x.expanded.lawful) m.region m.virtual_address m.rights)
