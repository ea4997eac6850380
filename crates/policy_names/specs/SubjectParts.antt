-- What a subject refers to beside its component: what its windows show, and the events and subjects of its signals.
use Rattle.std.specs.Prelude.{List, length, map, nat_lt, Option}
use Rattle.std.specs.Option.{option_or}
use Rattle.std.specs.List.{list_all}
use Rattle.muen_num.specs.Search.{first_in}
use Rattle.policy_lawful.specs.Resolution.{channel_named, device_in_range, device_named, mapping_named, name_at}
use Rattle.policy_lawful.specs.Rules.{device_references, undeclared}
use Rattle.policy_lawful.specs.declared.offence.Offence.{Offence}
use Rattle.policy_lawful.specs.declared.resolved.ChannelUse.{ChannelUse as ResolvedChannel}
use Rattle.policy_lawful.specs.declared.resolved.DeviceUse.{DeviceUse as ResolvedDevice}
use Rattle.policy_lawful.specs.declared.resolved.EventSource.{EventSource as ResolvedSource}
use Rattle.policy_lawful.specs.declared.resolved.EventTarget.{EventTarget as ResolvedTarget}
use Rattle.policy_lawful.specs.declared.resolved.Mapping.{Mapping as ResolvedMapping}
use Rattle.policy_lawful.specs.declared.resolved.Monitor.{Monitor as ResolvedMonitor}
use Rattle.policy_lawful.specs.source.ChannelUse.{ChannelUse}
use Rattle.policy_lawful.specs.source.DeviceUse.{DeviceUse}
use Rattle.policy_lawful.specs.source.EventSource.{EventSource}
use Rattle.policy_lawful.specs.source.EventTarget.{EventTarget}
use Rattle.policy_lawful.specs.source.Mapping.{Mapping}
use Rattle.policy_lawful.specs.source.Monitor.{Monitor}
use Rattle.policy_lawful.specs.source.Source.{Source}
use Rattle.policy_lawful.specs.source.Subject.{Subject}
use Rattle.policy_names.specs.Outline.{bare_resolution}
use Rattle.policy_names.specs.Indexes.{StandsFor}

-- the first region, channel, device or part of a device that isn't there
unfoldable pub windows_offence : Source → Subject → Option Offence
windows_offence p s =
    option_or (first_in (λ m. undeclared s.name (map (λ r. r.name) p.memory, m.region)) s.memory)
    (option_or (first_in (λ c. undeclared s.name (map (λ c. c.name) p.channels, c.channel)) s.channels)
    (first_in (λ d. first_in (undeclared s.name) (device_references p d)) s.devices))

-- these stand for the subject's mappings, channels and devices
pub record WindowsStand (p : Source) (s : Subject) (windows : List ResolvedMapping) (ends : List ResolvedChannel) (grants : List ResolvedDevice) : Type 0 where
  pub regions : StandsFor {X = List ResolvedMapping} {Y = List Mapping} (map (mapping_named (bare_resolution p))) (list_all (λ m. nat_lt m.region (length p.memory))) s.memory windows
  pub channels : StandsFor {X = List ResolvedChannel} {Y = List ChannelUse} (map (channel_named (bare_resolution p))) (list_all (λ c. nat_lt c.channel (length p.channels))) s.channels ends
  pub devices : StandsFor {X = List ResolvedDevice} {Y = List DeviceUse} (map (device_named (bare_resolution p))) (list_all (device_in_range (bare_resolution p))) s.devices grants

-- the first event or monitored subject that isn't there
unfoldable pub signals_offence : Source → Subject → Option Offence
signals_offence p s =
    option_or (first_in (λ e. undeclared s.name (map (λ e. e.name) p.events, e.event)) s.sources)
    (option_or (first_in (λ e. undeclared s.name (map (λ e. e.name) p.events, e.event)) s.targets)
    (first_in (λ m. undeclared s.name (map (λ s. s.name) p.subjects, m.subject)) s.monitors))

-- these stand for the subject's sources, targets and monitors
pub record SignalsStand (p : Source) (s : Subject) (raised : List ResolvedSource) (heard : List ResolvedTarget) (watched : List ResolvedMonitor) : Type 0 where
  pub sources : StandsFor {X = List ResolvedSource} {Y = List EventSource} (map (λ e. record { event = name_at (map (λ x. x.name) p.events) e.event; way = e.way })) (list_all (λ e. nat_lt e.event (length p.events))) s.sources raised
  pub targets : StandsFor {X = List ResolvedTarget} {Y = List EventTarget} (map (λ e. record { event = name_at (map (λ x. x.name) p.events) e.event; vector = e.vector })) (list_all (λ e. nat_lt e.event (length p.events))) s.targets heard
  pub monitors : StandsFor {X = List ResolvedMonitor} {Y = List Monitor} (map (λ m. record { subject = name_at (map (λ x. x.name) p.subjects) m.subject; virtual_address = m.virtual_address; rights = m.rights })) (list_all (λ m. nat_lt m.subject (length p.subjects))) s.monitors watched
