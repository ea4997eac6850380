-- The windows of a subject and its ends of channels, by the indexes of what they show (Muen system policy: mappings,
-- channels, components, devices; monitors are this project's own).
use Rattle.std.specs.Prelude.{ℕ, ◌==◌, Bool, false, List, [], ◌++◌, map, slice_get, Option, Some, None, option_map, option_and_then, unwrap_or}
use Rattle.std.specs.Option.{option_map_or}
use Rattle.std.specs.List.{find, filter_map, flat_map, enumerate_from}
use Rattle.muen_num.specs.declared.limits.TheConstants.{PAGE}
use Rattle.policy_lawful.specs.Resolution.{Resolution, name_at}
use Rattle.policy_lawful.specs.declared.offence.Extent.{Extent}
use Rattle.policy_lawful.specs.declared.resolved.ComponentUse.{ComponentUse}
use Rattle.policy_lawful.specs.declared.resolved.DeviceMapping.{DeviceMapping}
use Rattle.policy_lawful.specs.declared.resolved.MapEntry.{MapEntry}
use Rattle.policy_lawful.specs.declared.resolved.Monitor.{Monitor}
use Rattle.policy_lawful.specs.declared.resolved.Subject.{Subject}
use Rattle.policy_lawful.specs.declared.resolved.Wanted.{Wanted}
use Rattle.policy_lawful.specs.declared.resolved.Wanted.TheVariants.{Memory as WantedMemory, Channel as WantedChannel}
use Rattle.policy_lawful.specs.Events.{ChannelEnd}
use Rattle.policy_lawful.specs.Thing.{Thing, region, channel, provided, device_memory, state}
use Rattle.policy_lawful.specs.Windows.{Window, window, role_rights}
use Rattle.policy_types.specs.declared.rights.Rights.{Rights}
use Rattle.policy_types.specs.declared.rights.Role.{Role}
use Rattle.policy_types.specs.declared.source.Component.{Component}
use Rattle.policy_types.specs.declared.source.ComponentChannel.{ComponentChannel}
use Rattle.policy_types.specs.declared.source.Provided.{Provided}
use Rattle.policy_types.specs.declared.source.Required.{Required}
use Rattle.policy_lawful.specs.declared.view.IndexedEnd.{IndexedEnd}
use Rattle.policy_lawful.specs.declared.view.Seen.{Seen}
use Rattle.policy_lawful.specs.declared.view.Shown.{Shown}
use Rattle.policy_lawful.specs.declared.view.Shown.TheVariants.{Memory, Channel, Provided as Given, Device, State}
use Rattle.policy_lawful.specs.declared.view.View.{View}

-- ---- one view

abbrev pub view : List ℕ → ℕ → ℕ → Rights → Shown → View
view name guest size rights shows = record { name = name; guest = guest; size = size; rights = rights; shows = shows }

-- on the region, or the channel, at an index
abbrev pub region_view : Resolution → ℕ → ℕ → Rights → Option View
region_view r index guest rights = option_map (λ x. view x.name guest x.size rights (Memory index)) (slice_get r.memory index)

abbrev pub channel_view : Resolution → ℕ → ℕ → Role → Option View
channel_view r index guest role =
    option_map (λ x. view x.name guest x.size (role_rights role) (Channel index)) (slice_get r.channels index)

-- on memory of the device at an index
abbrev pub device_view : Resolution → ℕ → DeviceMapping → Option View
device_view r device m =
    option_and_then (λ d. option_map (λ x. view x.name m.virtual_address x.size m.rights (Device device m.memory)) (slice_get d.memory m.memory))
    (slice_get r.devices device)

-- on the state page of the subject that is monitored
abbrev pub monitor_view : Resolution → Monitor → Option View
monitor_view r m =
    option_map (λ s. view s.name m.virtual_address PAGE m.rights (State m.subject)) (slice_get r.subjects m.subject)

-- ---- of a component

abbrev pub same_wanted : Wanted → Wanted → Bool
same_wanted (WantedMemory a) (WantedMemory b) = a == b
same_wanted (WantedChannel a) (WantedChannel b) = a == b
same_wanted _ _ = false

-- what stands for a logical name: the first entry of it
abbrev pub entry_for : List MapEntry → Wanted → Option MapEntry
entry_for entries wanted = find (λ e. same_wanted e.logical wanted) entries

-- each with its index in the component
abbrev pub provided_view : ℕ × Provided → View
provided_view (index, x) = view x.logical x.virtual_address x.size x.rights (Given index)

abbrev pub required_view : Resolution → List MapEntry → ℕ × Required → Option View
required_view r entries (index, x) =
    option_and_then (λ e. region_view r e.physical x.virtual_address (unwrap_or e.rights x.rights)) (entry_for entries (WantedMemory index))

abbrev pub component_channel_view : Resolution → List MapEntry → ℕ × ComponentChannel → Option View
component_channel_view r entries (index, x) =
    option_and_then (λ e. channel_view r e.physical x.virtual_address x.role) (entry_for entries (WantedChannel index))

-- the provided regions, the required regions, the channels
abbrev pub component_views : Resolution → List MapEntry → Component → List View
component_views r entries c =
    map provided_view (enumerate_from 0 c.provides)
    ++ filter_map (required_view r entries) (enumerate_from 0 c.memory)
    ++ filter_map (component_channel_view r entries) (enumerate_from 0 c.channels)

abbrev pub use_views : Resolution → Option ComponentUse → List View
use_views r None = []
use_views r (Some used) = option_map_or (component_views r used.map) (slice_get r.components used.used) []

-- ---- of a subject

-- in the order of its windows: its mappings, its channels, its devices' memory, those of its component, the state pages
-- that it monitors
unfoldable pub views_of : Resolution → Subject → List View
views_of r s =
    filter_map (λ m. region_view r m.region m.virtual_address m.rights) s.memory
    ++ filter_map (λ c. channel_view r c.channel c.virtual_address c.role) s.channels
    ++ flat_map (λ d. filter_map (device_view r d.device) d.memory) s.devices
    ++ use_views r s.component
    ++ filter_map (monitor_view r) s.monitors

-- of the subject at an index; none, where no subject is there
abbrev pub views_at : Resolution → ℕ → List View
views_at r index = option_map_or (views_of r) (slice_get r.subjects index) []

-- a view as a named range of guest addresses
abbrev pub view_extent : View → Extent
view_extent v = record { name = v.name; address = v.guest; size = v.size }

-- it shows the region at an index
abbrev pub is_on_region : ℕ → Shown → Bool
is_on_region index (Memory k) = k == index
is_on_region index _ = false

-- the thing that a view shows to the subject of this name
abbrev pub thing_shown : Resolution → List ℕ → View → Shown → Thing
thing_shown r subject v (Memory index) = region v.name
thing_shown r subject v (Channel index) = channel v.name
thing_shown r subject v (Given index) = provided subject v.name
thing_shown r subject v (Device device memory) = device_memory (name_at (map (λ d. d.name) r.devices) device) v.name
thing_shown r subject v (State index) = state v.name

abbrev pub view_window : Resolution → List ℕ → View → Window Thing
view_window r subject v = window v.guest v.size v.rights (thing_shown r subject v v.shows)

-- ---- ends of channels

abbrev pub component_end : List MapEntry → ℕ × ComponentChannel → Option IndexedEnd
component_end entries (index, x) =
    option_map (λ e. record { channel = e.physical; role = x.role; call = x.call; vector = x.vector }) (entry_for entries (WantedChannel index))

abbrev pub use_ends : Resolution → Option ComponentUse → List IndexedEnd
use_ends r None = []
use_ends r (Some used) =
    option_map_or (λ c. filter_map (component_end used.map) (enumerate_from 0 c.channels)) (slice_get r.components used.used) []

-- a subject's ends of channels, its own and those of its component
unfoldable pub channel_ends_of : Resolution → Subject → List IndexedEnd
channel_ends_of r s =
    map (λ c. record { channel = c.channel; role = c.role; call = c.call; vector = c.vector }) s.channels ++ use_ends r s.component

-- of the subject at an index; none, where no subject is there
abbrev pub channel_ends_at : Resolution → ℕ → List IndexedEnd
channel_ends_at r index = option_map_or (channel_ends_of r) (slice_get r.subjects index) []

-- what a subject sees
abbrev pub seen_by : Resolution → Subject → Seen
seen_by r s = record { views = views_of r s; channel_ends = channel_ends_of r s }

-- the end with its channel by name
abbrev pub channel_end_named : Resolution → IndexedEnd → ChannelEnd
channel_end_named r e = record {
  channel = name_at (map (λ c. c.name) r.channels) e.channel;
  role = e.role;
  call = e.call;
  vector = e.vector;
}
