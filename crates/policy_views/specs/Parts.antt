-- The windows of a subject in parts: those before the ones on what its component provides, and those behind them.
use Rattle.std.specs.Prelude.{ℕ, List, [], ◌++◌, map, slice_get, Option, Some, None}
use Rattle.std.specs.Option.{option_map_or}
use Rattle.std.specs.List.{enumerate_from, filter_map, flat_map}
use Rattle.policy_lawful.specs.ByIndex.{provided_at}
use Rattle.policy_lawful.specs.Resolution.{Resolution}
use Rattle.policy_lawful.specs.Views.{channel_ends_of, channel_view, component_channel_view, device_view, monitor_view, provided_view, region_view, required_view}
use Rattle.policy_lawful.specs.declared.resolved.ComponentUse.{ComponentUse}
use Rattle.policy_lawful.specs.declared.resolved.MapEntry.{MapEntry}
use Rattle.policy_lawful.specs.declared.resolved.Subject.{Subject}
use Rattle.policy_lawful.specs.declared.view.View.{View}
use Rattle.policy_lawful.specs.source.Component.{Component}
use Rattle.policy_views.specs.declared.linked.Sight.{Sight}

-- on its mappings, its channels, its devices' memory
abbrev pub front_views : Resolution → Subject → List View
front_views r s =
    filter_map (λ m. region_view r m.region m.virtual_address m.rights) s.memory
    ++ filter_map (λ c. channel_view r c.channel c.virtual_address c.role) s.channels
    ++ flat_map (λ d. filter_map (device_view r d.device) d.memory) s.devices

-- on what its component provides
abbrev pub given_views : Resolution → Subject → List View
given_views r s = map provided_view (enumerate_from 0 (provided_at r.components s.component))

-- on what a component asks for
abbrev pub component_asks : Resolution → List MapEntry → Component → List View
component_asks r entries c =
    filter_map (required_view r entries) (enumerate_from 0 c.memory) ++ filter_map (component_channel_view r entries) (enumerate_from 0 c.channels)

abbrev pub use_asks : Resolution → Option ComponentUse → List View
use_asks r None = []
use_asks r (Some used) = option_map_or (component_asks r used.map) (slice_get r.components used.used) []

-- on that, and on the state pages that it monitors
abbrev pub behind_views : Resolution → Subject → List View
behind_views r s = use_asks r s.component ++ filter_map (monitor_view r) s.monitors

-- what a subject sees, but for what its component provides
abbrev pub sight_of : Resolution → Subject → Sight
sight_of r s = record { front = front_views r s; behind = behind_views r s; channel_ends = channel_ends_of r s }

-- of the subject at an index; none, where no subject is there
abbrev pub front_at : Resolution → ℕ → List View
front_at r index = option_map_or (front_views r) (slice_get r.subjects index) []

abbrev pub behind_at : Resolution → ℕ → List View
behind_at r index = option_map_or (behind_views r) (slice_get r.subjects index) []
