-- The windows that a policy grants to a subject, and what an access may touch (Muen system policy: mappings; Intel SDM
-- volume 3, EPT violations, for the rights that are found).
use Rattle.std.specs.Prelude.{ℕ, ◌+◌, ◌-◌, ◌&&◌, Bool, List, [], ◌++◌, map, Option, Some, None, nat_le, nat_lt, option_map, option_and_then, unwrap_or, if◌then◌else◌}
use Rattle.std.specs.List.{find, filter_map, flat_map}
use Rattle.std.specs.Str.{bytes_eq}
use Rattle.muen_num.specs.declared.access.AccessKind.{AccessKind}
use Rattle.muen_num.specs.declared.limits.TheConstants.{PAGE}
use Rattle.policy_meaning.specs.Thing.{Thing, region, channel, provided, device_memory, state, component_by}
use Rattle.policy_types.specs.Rights.{allows}
use Rattle.policy_types.specs.declared.rights.Rights.{Rights}
use Rattle.policy_types.specs.declared.rights.Rights.TheVariants.{R, Rw}
use Rattle.policy_types.specs.declared.rights.Role.{Role}
use Rattle.policy_types.specs.declared.rights.Role.TheVariants.{Writer, Reader}
use Rattle.policy_types.specs.declared.source.Source.{Source}
use Rattle.policy_types.specs.declared.source.Subject.{Subject}
use Rattle.policy_types.specs.declared.source.Component.{Component}
use Rattle.policy_types.specs.declared.source.ComponentUse.{ComponentUse}
use Rattle.policy_types.specs.declared.source.ComponentChannel.{ComponentChannel}
use Rattle.policy_types.specs.declared.source.Required.{Required}
use Rattle.policy_types.specs.declared.source.MapEntry.{MapEntry}
use Rattle.policy_types.specs.declared.source.DeviceMapping.{DeviceMapping}
use Rattle.policy_types.specs.declared.source.Monitor.{Monitor}

-- a range of guest addresses that shows the whole of a thing from its first byte, with these rights
pub record Window (X : Type 0) : Type 0 where
  pub guest : ℕ
  pub size : ℕ
  pub rights : Rights
  pub thing : X

abbrev pub window : {X : Type 0} → ℕ → ℕ → Rights → X → Window X
window guest size rights thing = record { guest = guest; size = size; rights = rights; thing = thing }

-- a writer may read and write its channel, a reader may read it
abbrev pub role_rights : Role → Rights
role_rights Writer = Rw
role_rights Reader = R

abbrev pub region_window : Source → List ℕ → ℕ → Rights → Option (Window Thing)
region_window p name guest rights =
    option_map (λ r. window guest r.size rights (region r.name)) (find (λ r. bytes_eq r.name name) p.memory)

abbrev pub channel_window : Source → List ℕ → ℕ → Role → Option (Window Thing)
channel_window p name guest role =
    option_map (λ c. window guest c.size (role_rights role) (channel c.name)) (find (λ c. bytes_eq c.name name) p.channels)

abbrev pub device_window : Source → List ℕ → DeviceMapping → Option (Window Thing)
device_window p name m =
    option_and_then (λ d. option_map (λ x. window m.virtual_address x.size m.rights (device_memory d.name x.name))
    (find (λ x. bytes_eq x.name m.memory) d.memory))
    (find (λ d. bytes_eq d.name name) p.devices)

-- what a component's logical name stands for at a subject that uses it
abbrev pub entry_of : Option ComponentUse → List ℕ → Option MapEntry
entry_of None logical = None
entry_of (Some used) logical = find (λ e. bytes_eq e.logical logical) used.map

abbrev pub required_window : Source → Subject → Required → Option (Window Thing)
required_window p s x =
    option_and_then (λ e. region_window p e.physical x.virtual_address (unwrap_or e.rights x.rights))
    (entry_of s.component x.logical)

abbrev pub component_channel_window : Source → Subject → ComponentChannel → Option (Window Thing)
component_channel_window p s x =
    option_and_then (λ e. channel_window p e.physical x.virtual_address x.role) (entry_of s.component x.logical)

-- of its component: the provided regions, the required regions, the channels
abbrev pub component_windows : Source → Subject → Option Component → List (Window Thing)
component_windows p s None = []
component_windows p s (Some c) =
    map (λ x. window x.virtual_address x.size x.rights (provided s.name x.logical)) c.provides
    ++ filter_map (required_window p s) c.memory
    ++ filter_map (component_channel_window p s) c.channels

-- a window on the state page of a monitored subject
abbrev pub monitor_window : Monitor → Window Thing
monitor_window m = window m.virtual_address PAGE m.rights (state m.subject)

-- the windows of a subject, in order: its mappings, its channels, its devices' memory, those of its component, the state
-- pages that it monitors
unfoldable pub windows_of : Source → Subject → List (Window Thing)
windows_of p s =
    filter_map (λ m. region_window p m.region m.virtual_address m.rights) s.memory
    ++ filter_map (λ c. channel_window p c.channel c.virtual_address c.role) s.channels
    ++ flat_map (λ d. filter_map (device_window p d.device) d.memory) s.devices
    ++ component_windows p s (component_by p s.component)
    ++ map monitor_window s.monitors

-- ---- what an access may touch

pub data Access (X : Type 0) : Type 0 where
  -- the byte of a thing at this offset
  byte : X → ℕ → Access X
  -- no such right; the rights that were found, none where no window holds the address
  violation : Option Rights → Access X

abbrev pub holds : {X : Type 0} → Window X → ℕ → Bool
holds w address = nat_le w.guest address && nat_lt address (w.guest + w.size)

abbrev pub access_by : {X : Type 0} → Option (Window X) → ℕ → AccessKind → Access X
access_by None address kind = violation None
access_by (Some w) address kind =
    if allows w.rights kind then byte w.thing (address - w.guest) else violation (Some w.rights)

-- what an access at a guest address below 2^48 may touch
abbrev pub access_of : {X : Type 0} → List (Window X) → ℕ → AccessKind → Access X
access_of windows address kind = access_by (find (λ w. holds w address) windows) address kind
