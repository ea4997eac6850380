-- A policy whose references are resolved, and the source policy that it resolves.
use Rattle.std.specs.Prelude.{◌≡◌, ℕ, ◌&&◌, Bool, true, List, [], length, map, slice_get, slice_index_or, nat_lt, None, option_map, Result, Ok, Err}
use Rattle.std.specs.Option.{option_map_or}
use Rattle.std.specs.List.{list_all}
use Rattle.policy_lawful.specs.Rules.{offence_1, offence_2}
use Rattle.policy_types.specs.declared.refusal.Refusal.{Refusal}
use Rattle.policy_types.specs.declared.source.Source.{Source}
use Rattle.policy_types.specs.declared.source.Device.{Device}
use Rattle.policy_types.specs.declared.source.Component.{Component}
use Rattle.policy_types.specs.declared.source.ComponentUse.{ComponentUse}
use Rattle.policy_types.specs.declared.source.MapEntry.{MapEntry}
use Rattle.policy_types.specs.declared.source.Mapping.{Mapping}
use Rattle.policy_types.specs.declared.source.ChannelUse.{ChannelUse}
use Rattle.policy_types.specs.declared.source.DeviceUse.{DeviceUse}
use Rattle.policy_types.specs.declared.source.Subject.{Subject}
use Rattle.policy_types.specs.declared.source.Group.{Group}
use Rattle.policy_types.specs.declared.source.MajorFrame.{MajorFrame}
use Rattle.policy_types.specs.declared.source.CpuFrames.{CpuFrames}
use Rattle.policy_lawful.specs.declared.resolved.Elements.{Elements}
use Rattle.policy_lawful.specs.declared.resolved.ComponentUse.{ComponentUse as UsedComponent}
use Rattle.policy_lawful.specs.declared.resolved.MapEntry.{MapEntry as ResolvedEntry}
use Rattle.policy_lawful.specs.declared.resolved.Wanted.{Wanted}
use Rattle.policy_lawful.specs.declared.resolved.Wanted.TheVariants.{Memory as WantedMemory, Channel as WantedChannel}
use Rattle.policy_lawful.specs.declared.resolved.Mapping.{Mapping as ResolvedMapping}
use Rattle.policy_lawful.specs.declared.resolved.ChannelUse.{ChannelUse as ResolvedChannel}
use Rattle.policy_lawful.specs.declared.resolved.DeviceUse.{DeviceUse as ResolvedDevice}
use Rattle.policy_lawful.specs.declared.resolved.Subject.{Subject as ResolvedSubject}
use Rattle.policy_lawful.specs.declared.resolved.Group.{Group as ResolvedGroup}
use Rattle.policy_lawful.specs.declared.resolved.MajorFrame.{MajorFrame as ResolvedMajor}
use Rattle.policy_lawful.specs.declared.resolved.CpuFrames.{CpuFrames as ResolvedCpu}

-- what contracts see of a resolved policy: its elements
abbrev pub Resolution : Type 0
Resolution = Elements

-- ---- the names that stand for indexes

abbrev pub name_at : List (List ℕ) → ℕ → List ℕ
name_at names index = slice_index_or names index []

abbrev pub mapping_named : Resolution → ResolvedMapping → Mapping
mapping_named r m = record {
  region = name_at (map (λ x. x.name) r.memory) m.region;
  virtual_address = m.virtual_address;
  rights = m.rights;
}

abbrev pub channel_named : Resolution → ResolvedChannel → ChannelUse
channel_named r c = record {
  channel = name_at (map (λ x. x.name) r.channels) c.channel;
  role = c.role;
  virtual_address = c.virtual_address;
  call = c.call;
  vector = c.vector;
}

-- names of a device's things, where the device is there
abbrev pub device_part : Resolution → (Device → List (List ℕ)) → ℕ → List (List ℕ)
device_part r names_of index = option_map_or names_of (slice_get r.devices index) []

abbrev pub device_named : Resolution → ResolvedDevice → DeviceUse
device_named r d = record {
  device = name_at (map (λ x. x.name) r.devices) d.device;
  memory = map (λ m. record { memory = name_at (device_part r (λ x. map (λ m. m.name) x.memory) d.device) m.memory; virtual_address = m.virtual_address; rights = m.rights }) d.memory;
  io_ports = map (name_at (device_part r (λ x. map (λ m. m.name) x.io_ports) d.device)) d.io_ports;
  irqs = map (λ i. record { irq = name_at (device_part r (λ x. map (λ m. m.name) x.irqs) d.device) i.irq; vector = i.vector }) d.irqs;
}

abbrev pub component_part : Resolution → (Component → List (List ℕ)) → ℕ → List (List ℕ)
component_part r names_of index = option_map_or names_of (slice_get r.components index) []

abbrev pub entry_named : Resolution → ℕ → Wanted → ResolvedEntry → MapEntry
entry_named r used (WantedMemory index) e = record {
  logical = name_at (component_part r (λ c. map (λ x. x.logical) c.memory) used) index;
  physical = name_at (map (λ x. x.name) r.memory) e.physical;
  rights = e.rights;
}
entry_named r used (WantedChannel index) e = record {
  logical = name_at (component_part r (λ c. map (λ x. x.logical) c.channels) used) index;
  physical = name_at (map (λ x. x.name) r.channels) e.physical;
  rights = e.rights;
}

abbrev pub component_named : Resolution → UsedComponent → ComponentUse
component_named r c = record {
  used = name_at (map (λ x. x.name) r.components) c.used;
  map = map (λ e. entry_named r c.used e.logical e) c.map;
}

-- a subject, where the subjects that it may monitor have these names
abbrev pub subject_named_among : Resolution → List (List ℕ) → ResolvedSubject → Subject
subject_named_among r names s = record {
  name = s.name;
  cpu = s.cpu;
  entry = s.entry;
  component = option_map (component_named r) s.component;
  memory = map (mapping_named r) s.memory;
  channels = map (channel_named r) s.channels;
  devices = map (device_named r) s.devices;
  msrs = s.msrs;
  sources = map (λ e. record { event = name_at (map (λ x. x.name) r.events) e.event; way = e.way }) s.sources;
  targets = map (λ e. record { event = name_at (map (λ x. x.name) r.events) e.event; vector = e.vector }) s.targets;
  monitors = map (λ m. record { subject = name_at names m.subject; virtual_address = m.virtual_address; rights = m.rights }) s.monitors;
}

abbrev pub subject_named : Resolution → ResolvedSubject → Subject
subject_named r s = subject_named_among r (map (λ x. x.name) r.subjects) s

abbrev pub group_named : Resolution → ResolvedGroup → Group
group_named r g = record {
  name = g.name;
  cpu = g.cpu;
  subjects = map (name_at (map (λ s. s.name) r.subjects)) g.subjects;
}

abbrev pub cpu_named : Resolution → ResolvedCpu → CpuFrames
cpu_named r c = record {
  cpu = c.cpu;
  minor_frames = map (λ f. record { group = name_at (map (λ g. g.name) r.scheduling.groups) f.group; ticks = f.ticks }) c.minor_frames;
}

abbrev pub major_named : Resolution → ResolvedMajor → MajorFrame
major_named r m = record { cpus = map (cpu_named r) m.cpus }

-- the source policy: each index by the name that stands there
unfoldable pub source_of : Resolution → Source
source_of r = record {
  processor = r.processor;
  memory_blocks = r.memory_blocks;
  devices = r.devices;
  memory = r.memory;
  channels = r.channels;
  components = r.components;
  events = r.events;
  subjects = map (subject_named r) r.subjects;
  scheduling = record {
    groups = map (group_named r) r.scheduling.groups;
    major_frames = map (major_named r) r.scheduling.major_frames;
    tau0 = r.scheduling.tau0;
  };
  device_domains = r.device_domains;
}

-- ---- indexes in range

abbrev pub device_in_range : Resolution → ResolvedDevice → Bool
device_in_range r d =
    nat_lt d.device (length r.devices)
    && list_all (λ m. nat_lt m.memory (length (device_part r (λ x. map (λ m. m.name) x.memory) d.device))) d.memory
    && list_all (λ i. nat_lt i (length (device_part r (λ x. map (λ m. m.name) x.io_ports) d.device))) d.io_ports
    && list_all (λ i. nat_lt i.irq (length (device_part r (λ x. map (λ m. m.name) x.irqs) d.device))) d.irqs

abbrev pub entry_in_range : Resolution → ℕ → Wanted → ℕ → Bool
entry_in_range r used (WantedMemory index) physical =
    nat_lt index (length (component_part r (λ c. map (λ x. x.logical) c.memory) used)) && nat_lt physical (length r.memory)
entry_in_range r used (WantedChannel index) physical =
    nat_lt index (length (component_part r (λ c. map (λ x. x.logical) c.channels) used)) && nat_lt physical (length r.channels)

abbrev pub component_in_range : Resolution → UsedComponent → Bool
component_in_range r c =
    nat_lt c.used (length r.components) && list_all (λ e. entry_in_range r c.used e.logical e.physical) c.map

-- a subject, where there are so many subjects that it may monitor
abbrev pub subject_in_range_among : Resolution → ℕ → ResolvedSubject → Bool
subject_in_range_among r subjects s =
    option_map_or (component_in_range r) s.component true
    && list_all (λ m. nat_lt m.region (length r.memory)) s.memory
    && list_all (λ c. nat_lt c.channel (length r.channels)) s.channels
    && list_all (device_in_range r) s.devices
    && list_all (λ e. nat_lt e.event (length r.events)) s.sources
    && list_all (λ e. nat_lt e.event (length r.events)) s.targets
    && list_all (λ m. nat_lt m.subject subjects) s.monitors

abbrev pub subject_in_range : Resolution → ResolvedSubject → Bool
subject_in_range r s = subject_in_range_among r (length r.subjects) s

abbrev pub group_in_range : Resolution → ResolvedGroup → Bool
group_in_range r g = list_all (λ i. nat_lt i (length r.subjects)) g.subjects

abbrev pub major_in_range : Resolution → ResolvedMajor → Bool
major_in_range r m =
    list_all (λ c. list_all (λ f. nat_lt f.group (length r.scheduling.groups)) c.minor_frames) m.cpus

-- each index is in the list that declares it
unfoldable pub are_in_range : Resolution → Bool
are_in_range r =
    list_all (subject_in_range r) r.subjects
    && list_all (group_in_range r) r.scheduling.groups
    && list_all (major_in_range r) r.scheduling.major_frames

-- names are unique, and references are declared and in their lists
pub record IsResolved (r : Resolution) : Type 0 where
  pub names : offence_1 (source_of r) ≡ None
  pub references : offence_2 (source_of r) ≡ None
  pub in_range : are_in_range r ≡ true

-- what a call that resolves or checks has kept, as a source policy
abbrev pub kept_source : Result Resolution Refusal → Result Source Refusal
kept_source (Ok r) = Ok (source_of r)
kept_source (Err refusal) = Err refusal
