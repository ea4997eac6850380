-- A resolved policy is the only one that stands for its source policy: names are unique, so each tells one index.
use Rattle.std.proofs.Common.{◌≡◌, ℕ, ◌+◌, ◌<◌, true, List, [], ◌++◌, length, map, Option, Some, None, sym, ap, ◌∙◌, subst, arith, length-append}
use Rattle.std.specs.Prelude.{nat_lt, slice_get}
use Rattle.std.specs.Option.{option_map_or}
use Rattle.std.specs.List.{list_all}
use Rattle.std.proofs.lemmas.Bool.{and_parts, ltb-true}
use Rattle.std.proofs.lemmas.List.{get_or-append-add, length-map}
use Rattle.muen_num.proofs.Lists.{there}
use Rattle.policy_lawful.proofs.SourceElements.{parts_in_range}
use Rattle.policy_lawful.proofs.UniqueNames.{channels_unique, devices_unique, events_unique, groups_unique, names_of_subjects, parts_unique, regions_unique, subjects_unique, unique, unique_logical, unique_parts}
use Rattle.policy_lawful.specs.Resolution.{IsResolved, Resolution, channel_named, component_in_range, component_named, component_part, cpu_named, device_in_range, device_named, device_part, entry_in_range, entry_named, group_in_range, group_named, major_in_range, major_named, mapping_named, name_at, source_of, subject_in_range, subject_in_range_among, subject_named, subject_named_among}
use Rattle.policy_lawful.specs.Rules.{repeated}
use Rattle.policy_lawful.specs.declared.resolved.ComponentUse.{ComponentUse}
use Rattle.policy_lawful.specs.declared.resolved.CpuFrames.{CpuFrames}
use Rattle.policy_lawful.specs.declared.resolved.DeviceMapping.{DeviceMapping}
use Rattle.policy_lawful.specs.declared.resolved.DeviceUse.{DeviceUse}
use Rattle.policy_lawful.specs.declared.resolved.EventSource.{EventSource}
use Rattle.policy_lawful.specs.declared.resolved.EventTarget.{EventTarget}
use Rattle.policy_lawful.specs.declared.resolved.Group.{Group}
use Rattle.policy_lawful.specs.declared.resolved.IrqUse.{IrqUse}
use Rattle.policy_lawful.specs.declared.resolved.MajorFrame.{MajorFrame}
use Rattle.policy_lawful.specs.declared.resolved.MapEntry.{MapEntry}
use Rattle.policy_lawful.specs.declared.resolved.MinorFrame.{MinorFrame}
use Rattle.policy_lawful.specs.declared.resolved.Monitor.{Monitor}
use Rattle.policy_lawful.specs.declared.resolved.Subject.{Subject}
use Rattle.policy_lawful.specs.declared.resolved.Wanted.{Wanted}
use Rattle.policy_lawful.specs.declared.resolved.Wanted.TheVariants.{Memory as WantedMemory, Channel as WantedChannel}
use Rattle.policy_lawful.specs.rights.Rights.{Rights}
use Rattle.policy_lawful.specs.source.Channel.{Channel}
use Rattle.policy_lawful.specs.source.ChannelUse.{ChannelUse as NamedChannel}
use Rattle.policy_lawful.specs.source.Component.{Component}
use Rattle.policy_lawful.specs.source.ComponentUse.{ComponentUse as NamedComponent}
use Rattle.policy_lawful.specs.source.CpuFrames.{CpuFrames as NamedCpu}
use Rattle.policy_lawful.specs.source.Device.{Device}
use Rattle.policy_lawful.specs.source.DeviceMapping.{DeviceMapping as NamedMemory}
use Rattle.policy_lawful.specs.source.DeviceUse.{DeviceUse as NamedDevice}
use Rattle.policy_lawful.specs.source.Event.{Event}
use Rattle.policy_lawful.specs.source.EventSource.{EventSource as NamedSource}
use Rattle.policy_lawful.specs.source.EventTarget.{EventTarget as NamedTarget}
use Rattle.policy_lawful.specs.source.Group.{Group as NamedGroup}
use Rattle.policy_lawful.specs.source.IrqUse.{IrqUse as NamedIrq}
use Rattle.policy_lawful.specs.source.MajorFrame.{MajorFrame as NamedMajor}
use Rattle.policy_lawful.specs.source.MapEntry.{MapEntry as NamedEntry}
use Rattle.policy_lawful.specs.source.Mapping.{Mapping as NamedMapping}
use Rattle.policy_lawful.specs.source.MinorFrame.{MinorFrame as NamedMinor}
use Rattle.policy_lawful.specs.source.Monitor.{Monitor as NamedMonitor}
use Rattle.policy_lawful.specs.source.Region.{Region}
use Rattle.policy_lawful.specs.source.Source.{Source}
use Rattle.policy_lawful.specs.source.Subject.{Subject as NamedSubject}
use Rattle.image_soundness.proofs.ListsTold.{AreTold, index_one, lists_told, named_one, names_apart, options_told}

module _ (r : Resolution) (h : IsResolved r) where
  -- ---- windows of a subject

  mapping_told : AreTold (mapping_named r) (λ m. nat_lt m.region (length r.memory))
  mapping_told a b x y e =
      let region = named_one (λ (m : Region). m.name) r.memory (regions_unique r h) a.region b.region (ltb-true _ _ x) (ltb-true _ _ y) (ap (λ (m : NamedMapping). m.region) e) in
      let address = ap (λ (m : NamedMapping). m.virtual_address) e in
      let rights = ap (λ (m : NamedMapping). m.rights) e in
      λ i. record { region = region i; virtual_address = address i; rights = rights i }

  channel_told : AreTold (channel_named r) (λ c. nat_lt c.channel (length r.channels))
  channel_told a b x y e =
      let channel = named_one (λ (c : Channel). c.name) r.channels (channels_unique r h) a.channel b.channel (ltb-true _ _ x) (ltb-true _ _ y) (ap (λ (c : NamedChannel). c.channel) e) in
      let role = ap (λ (c : NamedChannel). c.role) e in
      let address = ap (λ (c : NamedChannel). c.virtual_address) e in
      let call = ap (λ (c : NamedChannel). c.call) e in
      let vector = ap (λ (c : NamedChannel). c.vector) e in
      λ i. record { channel = channel i; role = role i; virtual_address = address i; call = call i; vector = vector i }

  -- ---- what it is granted of devices

  abbrev memory_names : ℕ → List (List ℕ)
  memory_names device = device_part r (λ x. map (λ m. m.name) x.memory) device

  abbrev port_names : ℕ → List (List ℕ)
  port_names device = device_part r (λ x. map (λ m. m.name) x.io_ports) device

  abbrev irq_names : ℕ → List (List ℕ)
  irq_names device = device_part r (λ x. map (λ m. m.name) x.irqs) device

  record PartsUnique (device : ℕ) : Type 0 where
    memory : repeated (memory_names device) ≡ None
    io_ports : repeated (port_names device) ≡ None
    irqs : repeated (irq_names device) ≡ None

  device_unique : (device : ℕ) → nat_lt device (length r.devices) ≡ true → PartsUnique device
  unfolding source_of
  device_unique device within =
      let d = there r.devices device (ltb-true device (length r.devices) within) in
      let are = parts_unique (source_of r) device d.0 h.names d.1 in
      let part : (names : Device → List (List ℕ)) → device_part r names device ≡ names d.0 = λ names. ap (λ o. option_map_or names o []) d.1 in
      record {
        memory = ap repeated (part (λ x. map (λ m. m.name) x.memory)) ∙ are.memory;
        io_ports = ap repeated (part (λ x. map (λ m. m.name) x.io_ports)) ∙ are.io_ports;
        irqs = ap repeated (part (λ x. map (λ m. m.name) x.irqs)) ∙ are.irqs;
      }

  memory_told : (names : List (List ℕ)) → repeated names ≡ None
      → AreTold {Y = NamedMemory} (λ (m : DeviceMapping). record { memory = name_at names m.memory; virtual_address = m.virtual_address; rights = m.rights }) (λ m. nat_lt m.memory (length names))
  memory_told names unique a b x y e =
      let memory = index_one names unique a.memory b.memory (ltb-true _ _ x) (ltb-true _ _ y) (ap (λ (m : NamedMemory). m.memory) e) in
      let address = ap (λ (m : NamedMemory). m.virtual_address) e in
      let rights = ap (λ (m : NamedMemory). m.rights) e in
      λ i. record { memory = memory i; virtual_address = address i; rights = rights i }

  irq_told : (names : List (List ℕ)) → repeated names ≡ None
      → AreTold {Y = NamedIrq} (λ (q : IrqUse). record { irq = name_at names q.irq; vector = q.vector }) (λ q. nat_lt q.irq (length names))
  irq_told names unique a b x y e =
      let irq = index_one names unique a.irq b.irq (ltb-true _ _ x) (ltb-true _ _ y) (ap (λ (q : NamedIrq). q.irq) e) in
      let vector = ap (λ (q : NamedIrq). q.vector) e in
      λ i. record { irq = irq i; vector = vector i }

  record DeviceInRange (d : DeviceUse) : Type 0 where
    device : nat_lt d.device (length r.devices) ≡ true
    memory : list_all (λ m. nat_lt m.memory (length (memory_names d.device))) d.memory ≡ true
    io_ports : list_all (λ i. nat_lt i (length (port_names d.device))) d.io_ports ≡ true
    irqs : list_all (λ q. nat_lt q.irq (length (irq_names d.device))) d.irqs ≡ true

  device_parts : (d : DeviceUse) → device_in_range r d ≡ true → DeviceInRange d
  device_parts d x =
      let c = and_parts _ _ x in
      let b = and_parts _ _ c.0 in
      let a = and_parts _ _ b.0 in
      record { device = a.0; memory = a.1; io_ports = b.1; irqs = c.1 }

  -- the first is told from the second, were that of this device
  abbrev IsToldAt : DeviceUse → DeviceUse → ℕ → Type 0
  IsToldAt a b k = device_in_range r (record b { device = k }) ≡ true → device_named r a ≡ device_named r (record b { device = k }) → a ≡ record b { device = k }

  of_one_device : (a b : DeviceUse) → device_in_range r a ≡ true → IsToldAt a b a.device
  of_one_device a b x y e =
      let p = device_parts a x in
      let q = device_parts (record b { device = a.device }) y in
      let unique = device_unique a.device p.device in
      let memory = lists_told _ _ (memory_told (memory_names a.device) unique.memory) a.memory b.memory p.memory q.memory (ap (λ (d : NamedDevice). d.memory) e) in
      let ports = lists_told (name_at (port_names a.device)) (λ i. nat_lt i (length (port_names a.device)))
      (λ j k u v s. index_one (port_names a.device) unique.io_ports j k (ltb-true _ _ u) (ltb-true _ _ v) s) a.io_ports b.io_ports p.io_ports q.io_ports (ap (λ (d : NamedDevice). d.io_ports) e) in
      let irqs = lists_told _ _ (irq_told (irq_names a.device) unique.irqs) a.irqs b.irqs p.irqs q.irqs (ap (λ (d : NamedDevice). d.irqs) e) in
      λ i. record { device = a.device; memory = memory i; io_ports = ports i; irqs = irqs i }

  device_told : AreTold (device_named r) (device_in_range r)
  device_told a b x y e =
      let here = device_parts a x in
      let other = device_parts b y in
      let device = named_one (λ (d : Device). d.name) r.devices (devices_unique r h) a.device b.device (ltb-true _ _ here.device) (ltb-true _ _ other.device)
      (ap (λ (d : NamedDevice). d.device) e) in
      subst (IsToldAt a b) device (of_one_device a b x) y e

  -- ---- its component

  abbrev wanted_memory : Component → List (List ℕ)
  wanted_memory c = map (λ x. x.logical) c.memory

  abbrev wanted_channels : Component → List (List ℕ)
  wanted_channels c = map (λ x. x.logical) c.channels

  abbrev map_entry : Wanted → ℕ → Option Rights → MapEntry
  map_entry logical physical rights = record { logical = logical; physical = physical; rights = rights }

  module _ (used : ℕ) (c : Component) (is : slice_get r.components used ≡ Some c) where
    part_within : (names : Component → List (List ℕ)) (k : ℕ) → nat_lt k (length (component_part r names used)) ≡ true → k < length (names c)
    part_within names k x =
        let low = ltb-true k (length (component_part r names used)) x in
        let same : length (component_part r names used) ≡ length (names c) = ap (λ o. length (option_map_or names o [])) is in
        omega (arith, low, same)

    part_named : (names : Component → List (List ℕ)) (k : ℕ) → name_at (component_part r names used) k ≡ name_at (names c) k
    part_named names k = ap (λ o. name_at (option_map_or names o []) k) is

    abbrev provided : List (List ℕ)
    provided = map (λ x. x.logical) c.provides

    -- the names of its memory and of its channels are unique, and none is of both
    kinds_unique : (repeated (wanted_memory c) ≡ None) × (repeated (wanted_channels c) ≡ None)
    kinds_unique =
        let both = unique_parts (provided ++ wanted_memory c) (wanted_channels c) (unique_logical r h used c is) in
        ((unique_parts provided (wanted_memory c) both.0).1, both.1)

    kinds_apart : (j k : ℕ) → nat_lt j (length (component_part r wanted_memory used)) ≡ true → nat_lt k (length (component_part r wanted_channels used)) ≡ true
        → name_at (component_part r wanted_memory used) j ≡ name_at (component_part r wanted_channels used) k → ⊥
    kinds_apart j k x y e =
        let many = length-append provided (wanted_memory c) in
        let low = part_within wanted_memory j x in
        names_apart (provided ++ wanted_memory c) (wanted_channels c) (unique_logical r h used c is) (length provided + j) k (omega (arith, many, low)) (part_within wanted_channels k y)
        (get_or-append-add provided (wanted_memory c) j [] ∙ sym (part_named wanted_memory j) ∙ e ∙ part_named wanted_channels k)

    logical_one : (names : Component → List (List ℕ)) → repeated (names c) ≡ None → (j k : ℕ)
        → nat_lt j (length (component_part r names used)) ≡ true → nat_lt k (length (component_part r names used)) ≡ true
        → name_at (component_part r names used) j ≡ name_at (component_part r names used) k → j ≡ k
    logical_one names unique j k x y e = index_one (names c) unique j k (part_within names j x) (part_within names k y) (sym (part_named names j) ∙ e ∙ part_named names k)

    by_wanted : (v w : Wanted) (p q : ℕ) (s t : Option Rights) → entry_in_range r used v p ≡ true → entry_in_range r used w q ≡ true
        → entry_named r used v (map_entry v p s) ≡ entry_named r used w (map_entry w q t) → map_entry v p s ≡ map_entry w q t
    by_wanted (WantedMemory j) (WantedMemory k) p q s t x y e =
        let a = and_parts _ _ x in
        let b = and_parts _ _ y in
        let logical = logical_one wanted_memory kinds_unique.0 j k a.0 b.0 (ap (λ (n : NamedEntry). n.logical) e) in
        let physical = named_one (λ (m : Region). m.name) r.memory (regions_unique r h) p q (ltb-true _ _ a.1) (ltb-true _ _ b.1) (ap (λ (n : NamedEntry). n.physical) e) in
        let rights = ap (λ (n : NamedEntry). n.rights) e in
        λ i. map_entry (WantedMemory (logical i)) (physical i) (rights i)
    by_wanted (WantedChannel j) (WantedChannel k) p q s t x y e =
        let a = and_parts _ _ x in
        let b = and_parts _ _ y in
        let logical = logical_one wanted_channels kinds_unique.1 j k a.0 b.0 (ap (λ (n : NamedEntry). n.logical) e) in
        let physical = named_one (λ (m : Channel). m.name) r.channels (channels_unique r h) p q (ltb-true _ _ a.1) (ltb-true _ _ b.1) (ap (λ (n : NamedEntry). n.physical) e) in
        let rights = ap (λ (n : NamedEntry). n.rights) e in
        λ i. map_entry (WantedChannel (logical i)) (physical i) (rights i)
    by_wanted (WantedMemory j) (WantedChannel k) p q s t x y e =
        absurd (kinds_apart j k (and_parts _ _ x).0 (and_parts _ _ y).0 (ap (λ (n : NamedEntry). n.logical) e))
    by_wanted (WantedChannel j) (WantedMemory k) p q s t x y e =
        absurd (kinds_apart k j (and_parts _ _ y).0 (and_parts _ _ x).0 (sym (ap (λ (n : NamedEntry). n.logical) e)))

    entry_told : AreTold (λ (e : MapEntry). entry_named r used e.logical e) (λ e. entry_in_range r used e.logical e.physical)
    entry_told a b x y e = by_wanted a.logical b.logical a.physical b.physical a.rights b.rights x y e

  -- so of a component
  abbrev IsToldOf : ComponentUse → ComponentUse → ℕ → Type 0
  IsToldOf a b k = component_in_range r (record b { used = k }) ≡ true → component_named r a ≡ component_named r (record b { used = k }) → a ≡ record b { used = k }

  of_one_component : (a b : ComponentUse) → component_in_range r a ≡ true → IsToldOf a b a.used
  of_one_component a b x y e =
      let p = and_parts _ _ x in
      let q = and_parts _ _ y in
      let c = there r.components a.used (ltb-true _ _ p.0) in
      let entries = lists_told _ _ (entry_told a.used c.0 c.1) a.map b.map p.1 q.1 (ap (λ (u : NamedComponent). u.map) e) in
      λ i. record { used = a.used; map = entries i }

  component_told : AreTold (component_named r) (component_in_range r)
  unfolding source_of
  component_told a b x y e =
      let p = and_parts _ _ x in
      let q = and_parts _ _ y in
      let used = named_one (λ (c : Component). c.name) r.components (unique (source_of r) h.names).components a.used b.used (ltb-true _ _ p.0) (ltb-true _ _ q.0)
      (ap (λ (u : NamedComponent). u.used) e) in
      subst (IsToldOf a b) used (of_one_component a b x) y e

  -- ---- its events, and whom it monitors

  abbrev event_source : EventSource → NamedSource
  event_source e = record { event = name_at (map (λ x. x.name) r.events) e.event; way = e.way }

  source_told : AreTold event_source (λ e. nat_lt e.event (length r.events))
  source_told a b x y e =
      let event = named_one (λ (v : Event). v.name) r.events (events_unique r h) a.event b.event (ltb-true _ _ x) (ltb-true _ _ y) (ap (λ (v : NamedSource). v.event) e) in
      let way = ap (λ (v : NamedSource). v.way) e in
      λ i. record { event = event i; way = way i }

  abbrev event_target : EventTarget → NamedTarget
  event_target e = record { event = name_at (map (λ x. x.name) r.events) e.event; vector = e.vector }

  target_told : AreTold event_target (λ e. nat_lt e.event (length r.events))
  target_told a b x y e =
      let event = named_one (λ (v : Event). v.name) r.events (events_unique r h) a.event b.event (ltb-true _ _ x) (ltb-true _ _ y) (ap (λ (v : NamedTarget). v.event) e) in
      let vector = ap (λ (v : NamedTarget). v.vector) e in
      λ i. record { event = event i; vector = vector i }

  subject_one : (j k : ℕ) → nat_lt j (length r.subjects) ≡ true → nat_lt k (length r.subjects) ≡ true
      → name_at (map (λ s. s.name) r.subjects) j ≡ name_at (map (λ s. s.name) r.subjects) k → j ≡ k
  subject_one j k x y e = named_one (λ (s : Subject). s.name) r.subjects (subjects_unique r h.names) j k (ltb-true _ _ x) (ltb-true _ _ y) e

  abbrev monitor_named : Monitor → NamedMonitor
  monitor_named m = record { subject = name_at (map (λ x. x.name) r.subjects) m.subject; virtual_address = m.virtual_address; rights = m.rights }

  monitor_told : AreTold monitor_named (λ m. nat_lt m.subject (length r.subjects))
  monitor_told a b x y e =
      let subject = subject_one a.subject b.subject x y (ap (λ (m : NamedMonitor). m.subject) e) in
      let address = ap (λ (m : NamedMonitor). m.virtual_address) e in
      let rights = ap (λ (m : NamedMonitor). m.rights) e in
      λ i. record { subject = subject i; virtual_address = address i; rights = rights i }

  -- ---- subjects

  record SubjectInRange (s : Subject) : Type 0 where
    component : option_map_or (component_in_range r) s.component true ≡ true
    memory : list_all (λ m. nat_lt m.region (length r.memory)) s.memory ≡ true
    channels : list_all (λ c. nat_lt c.channel (length r.channels)) s.channels ≡ true
    devices : list_all (device_in_range r) s.devices ≡ true
    sources : list_all (λ e. nat_lt e.event (length r.events)) s.sources ≡ true
    targets : list_all (λ e. nat_lt e.event (length r.events)) s.targets ≡ true
    monitors : list_all (λ m. nat_lt m.subject (length r.subjects)) s.monitors ≡ true

  subject_parts : (s : Subject) → subject_in_range r s ≡ true → SubjectInRange s
  subject_parts s x =
      let g = and_parts _ _ x in
      let f = and_parts _ _ g.0 in
      let e = and_parts _ _ f.0 in
      let d = and_parts _ _ e.0 in
      let c = and_parts _ _ d.0 in
      let b = and_parts _ _ c.0 in
      record { component = b.0; memory = b.1; channels = c.1; devices = d.1; sources = e.1; targets = f.1; monitors = g.1 }

  subject_told : AreTold (subject_named r) (subject_in_range r)
  subject_told a b x y e =
      let p = subject_parts a x in
      let q = subject_parts b y in
      let name = ap (λ (s : NamedSubject). s.name) e in
      let cpu = ap (λ (s : NamedSubject). s.cpu) e in
      let begins = ap (λ (s : NamedSubject). s.entry) e in
      let component = options_told (component_named r) (component_in_range r) component_told a.component b.component p.component q.component (ap (λ (s : NamedSubject). s.component) e) in
      let memory = lists_told (mapping_named r) _ mapping_told a.memory b.memory p.memory q.memory (ap (λ (s : NamedSubject). s.memory) e) in
      let channels = lists_told (channel_named r) _ channel_told a.channels b.channels p.channels q.channels (ap (λ (s : NamedSubject). s.channels) e) in
      let devices = lists_told (device_named r) _ device_told a.devices b.devices p.devices q.devices (ap (λ (s : NamedSubject). s.devices) e) in
      let msrs = ap (λ (s : NamedSubject). s.msrs) e in
      let sources = lists_told event_source _ source_told a.sources b.sources p.sources q.sources (ap (λ (s : NamedSubject). s.sources) e) in
      let targets = lists_told event_target _ target_told a.targets b.targets p.targets q.targets (ap (λ (s : NamedSubject). s.targets) e) in
      let monitors = lists_told monitor_named _ monitor_told a.monitors b.monitors p.monitors q.monitors (ap (λ (s : NamedSubject). s.monitors) e) in
      λ i. record {
        name = name i;
        cpu = cpu i;
        entry = begins i;
        component = component i;
        memory = memory i;
        channels = channels i;
        devices = devices i;
        msrs = msrs i;
        sources = sources i;
        targets = targets i;
        monitors = monitors i;
      }

  -- ---- the plan

  group_told : AreTold (group_named r) (group_in_range r)
  group_told a b x y e =
      let name = ap (λ (g : NamedGroup). g.name) e in
      let cpu = ap (λ (g : NamedGroup). g.cpu) e in
      let subjects = lists_told (name_at (map (λ s. s.name) r.subjects)) (λ i. nat_lt i (length r.subjects)) subject_one a.subjects b.subjects x y (ap (λ (g : NamedGroup). g.subjects) e) in
      λ i. record { name = name i; cpu = cpu i; subjects = subjects i }

  abbrev minor_named : MinorFrame → NamedMinor
  minor_named f = record { group = name_at (map (λ g. g.name) r.scheduling.groups) f.group; ticks = f.ticks }

  minor_told : AreTold minor_named (λ f. nat_lt f.group (length r.scheduling.groups))
  minor_told a b x y e =
      let in_group = named_one (λ (g : Group). g.name) r.scheduling.groups (groups_unique r h.names) a.group b.group (ltb-true _ _ x) (ltb-true _ _ y) (ap (λ (f : NamedMinor). f.group) e) in
      let ticks = ap (λ (f : NamedMinor). f.ticks) e in
      λ i. record { group = in_group i; ticks = ticks i }

  cpu_told : AreTold (cpu_named r) (λ (c : CpuFrames). list_all (λ f. nat_lt f.group (length r.scheduling.groups)) c.minor_frames)
  cpu_told a b x y e =
      let cpu = ap (λ (c : NamedCpu). c.cpu) e in
      let frames = lists_told minor_named _ minor_told a.minor_frames b.minor_frames x y (ap (λ (c : NamedCpu). c.minor_frames) e) in
      λ i. record { cpu = cpu i; minor_frames = frames i }

  major_told : AreTold (major_named r) (major_in_range r)
  major_told a b x y e =
      let cpus = lists_told (cpu_named r) _ cpu_told a.cpus b.cpus x y (ap (λ (m : NamedMajor). m.cpus) e) in
      λ i. record { cpus = cpus i }

-- ---- the whole

abbrev with_subjects : Resolution → List Subject → List Group → List MajorFrame → Resolution
with_subjects r subjects groups majors = record r { subjects = subjects; scheduling = record { groups = groups; major_frames = majors; tau0 = r.scheduling.tau0 } }

abbrev with_groups : Resolution → List Group → List MajorFrame → Resolution
with_groups r groups majors = with_subjects r r.subjects groups majors

abbrev with_majors : Resolution → List MajorFrame → Resolution
with_majors r majors = with_groups r r.scheduling.groups majors

-- where two resolved policies stand for one source policy, they are one
abbrev AreOne : Resolution → Resolution → Type 0
AreOne r q = IsResolved q → source_of r ≡ source_of q → r ≡ q

one_by_majors : (r : Resolution) → IsResolved r → (majors : List MajorFrame) → AreOne r (with_majors r majors)
unfolding source_of
one_by_majors r h majors k e =
    let here = (parts_in_range r h.in_range).majors in
    let other = (parts_in_range (with_majors r majors) k.in_range).majors in
    let same = lists_told (major_named r) (major_in_range r) (major_told r h) r.scheduling.major_frames majors here other (ap (λ (p : Source). p.scheduling.major_frames) e) in
    λ i. with_majors r (same i)

one_by_groups : (r : Resolution) → IsResolved r → (groups : List Group) (majors : List MajorFrame) → AreOne r (with_groups r groups majors)
unfolding source_of
one_by_groups r h groups majors k e =
    let here = (parts_in_range r h.in_range).groups in
    let other = (parts_in_range (with_groups r groups majors) k.in_range).groups in
    let same = lists_told (group_named r) (group_in_range r) (group_told r h) r.scheduling.groups groups here other (ap (λ (p : Source). p.scheduling.groups) e) in
    subst (λ gs. AreOne r (with_groups r gs majors)) same (one_by_majors r h majors) k e

one_by_subjects : (r : Resolution) → IsResolved r → (subjects : List Subject) (groups : List Group) (majors : List MajorFrame) → AreOne r (with_subjects r subjects groups majors)
unfolding source_of
one_by_subjects r h subjects groups majors k e =
    let q : Resolution = with_subjects r subjects groups majors in
    let names : map (λ s. s.name) r.subjects ≡ map (λ s. s.name) subjects = sym (names_of_subjects r) ∙ ap (λ (p : Source). map (λ s. s.name) p.subjects) e ∙ names_of_subjects q in
    let many : length subjects ≡ length r.subjects = sym (length-map subjects (λ (s : Subject). s.name)) ∙ sym (ap length names) ∙ length-map r.subjects (λ (s : Subject). s.name) in
    let here = (parts_in_range r h.in_range).subjects in
    let other = subst (λ n. list_all (subject_in_range_among r n) subjects ≡ true) many (parts_in_range q k.in_range).subjects in
    let stand : map (subject_named r) r.subjects ≡ map (subject_named r) subjects =
    ap (λ (p : Source). p.subjects) e ∙ ap (λ ns. map (subject_named_among r ns) subjects) (sym names) in
    let same = lists_told (subject_named r) (subject_in_range r) (subject_told r h) r.subjects subjects here other stand in
    subst (λ ss. AreOne r (with_subjects r ss groups majors)) same (one_by_groups r h groups majors) k e

-- **resolved policies are one**
pub resolutions_are_one : (r q : Resolution) → IsResolved r → IsResolved q → source_of r ≡ source_of q → r ≡ q
unfolding source_of
resolutions_are_one r q h k e =
    let processor = ap (λ (p : Source). p.processor) e in
    let blocks = ap (λ (p : Source). p.memory_blocks) e in
    let devices = ap (λ (p : Source). p.devices) e in
    let memory = ap (λ (p : Source). p.memory) e in
    let channels = ap (λ (p : Source). p.channels) e in
    let components = ap (λ (p : Source). p.components) e in
    let events = ap (λ (p : Source). p.events) e in
    let tau0 = ap (λ (p : Source). p.scheduling.tau0) e in
    let domains = ap (λ (p : Source). p.device_domains) e in
    let plan = q.scheduling in
    let same : with_subjects r q.subjects plan.groups plan.major_frames ≡ q =
    λ i. record {
      processor = processor i;
      memory_blocks = blocks i;
      devices = devices i;
      memory = memory i;
      channels = channels i;
      components = components i;
      events = events i;
      subjects = q.subjects;
      scheduling = record { groups = plan.groups; major_frames = plan.major_frames; tau0 = tau0 i };
      device_domains = domains i;
    } in
    subst (AreOne r) same (one_by_subjects r h q.subjects plan.groups plan.major_frames) k e
