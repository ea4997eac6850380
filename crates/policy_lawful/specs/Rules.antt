-- The rules that a policy must keep beyond its schema, each by its first offence in the document's order (Muen system
-- policy, in this project's profile). All sums are exact.
use Rattle.std.specs.Prelude.{ℕ, ◌+◌, ◌-◌, ◌%◌, ◌==◌, ◌&&◌, ◌||◌, not, Bool, true, false, List, [], ◌∷◌, ◌++◌, length, map, slice_get, codes, decimal, nat_lt, nat_le, Option, Some, None, is_some, option_map, if◌then◌else◌}
use Rattle.std.specs.Option.{option_map_or, option_or}
use Rattle.std.specs.List.{find, list_any, list_all, flat_map, sum_by, count_by, enumerate_from}
use Rattle.std.specs.Str.{bytes_eq}
use Rattle.muen_num.specs.Range.{numbers_below}
use Rattle.muen_num.specs.declared.limits.TheConstants.{GUEST_END, KERNEL_REGIONS, LARGE_PAGE, MOST_BLOCK_BYTES, MOST_BLOCKS, MOST_CHANNELS, MOST_COMPONENTS, MOST_CPUS, MOST_DEVICE_BYTES, MOST_DEVICE_WINDOWS, MOST_DEVICES, MOST_EVENTS, MOST_LOGICAL_NAMES, MOST_MAJOR_FRAMES, MOST_MINOR_FRAMES, MOST_MSRS, MOST_PER_DEVICE, MOST_REGIONS, MOST_SUBJECTS, MOST_TICKS, MOST_WINDOWS, PAGE, PHYSICAL_END}
use Rattle.muen_num.specs.Search.{first_of, first_in, first_after, first_pair, unless}
use Rattle.policy_lawful.specs.Offences.{alone, two}
use Rattle.policy_lawful.specs.Ranges.{share_none}
use Rattle.muen_num.specs.declared.access.AccessKind.TheVariants.{Write}
use Rattle.policy_types.specs.Rights.{allows}
use Rattle.policy_meaning.specs.Thing.{Thing, region, channel, provided, device_memory, state, same_thing, component_by}
use Rattle.policy_meaning.specs.Windows.{Window, windows_of}
use Rattle.policy_lawful.specs.declared.offence.Extent.{Extent}
use Rattle.policy_lawful.specs.declared.offence.Offence.{Offence}
use Rattle.policy_types.specs.declared.source.Source.{Source}
use Rattle.policy_types.specs.declared.source.Device.{Device}
use Rattle.policy_types.specs.declared.source.Region.{Region}
use Rattle.policy_types.specs.declared.source.Component.{Component}
use Rattle.policy_types.specs.declared.source.ComponentUse.{ComponentUse}
use Rattle.policy_types.specs.declared.source.MapEntry.{MapEntry}
use Rattle.policy_types.specs.declared.source.DeviceUse.{DeviceUse}
use Rattle.policy_types.specs.declared.source.Subject.{Subject}
use Rattle.policy_types.specs.declared.source.Group.{Group}
use Rattle.policy_types.specs.declared.source.MajorFrame.{MajorFrame}
use Rattle.policy_types.specs.declared.source.CpuFrames.{CpuFrames}
use Rattle.policy_types.specs.declared.source.MinorFrame.{MinorFrame}
use Rattle.policy_types.specs.declared.source.Tau0.{Tau0}
use Rattle.muen_num.specs.Numbers.{is_page_aligned}

-- ---- names that are printed for frames and CPUs

abbrev pub major_name : ℕ → List ℕ
major_name k = codes "major." ++ decimal k

abbrev pub cpu_name : ℕ → List ℕ
cpu_name c = codes "cpu." ++ decimal c

-- each major frame with its number
abbrev pub majors_of : Source → List (ℕ × MajorFrame)
majors_of p = enumerate_from 0 p.scheduling.major_frames

-- ---- rule 1: names are unique for each kind

-- a name that stood before
abbrev pub repeated : List (List ℕ) → Option Offence
repeated names = first_pair (λ a b. unless (not (bytes_eq a b)) (alone b)) names

abbrev pub device_kinds : Device → List (List (List ℕ))
device_kinds d = map (λ m. m.name) d.memory ∷ map (λ x. x.name) d.io_ports ∷ map (λ i. i.name) d.irqs ∷ []

-- a component's logical names, of all three lists
abbrev pub logical_names : Component → List (List ℕ)
logical_names c = map (λ x. x.logical) c.provides ++ map (λ x. x.logical) c.memory ++ map (λ x. x.logical) c.channels

-- the names of each kind: blocks; devices; each device's memory, ports, interrupts; regions and channels together;
-- components; each component's logical names; events; subjects; groups
abbrev pub kinds_of_names : Source → List (List (List ℕ))
kinds_of_names p =
    (map (λ b. b.name) p.memory_blocks ∷ map (λ d. d.name) p.devices ∷ [])
    ++ flat_map device_kinds p.devices
    ++ ((map (λ r. r.name) p.memory ++ map (λ c. c.name) p.channels) ∷ map (λ c. c.name) p.components ∷ [])
    ++ map logical_names p.components
    ++ (map (λ e. e.name) p.events ∷ map (λ s. s.name) p.subjects ∷ map (λ g. g.name) p.scheduling.groups ∷ [])

unfoldable pub offence_1 : Source → Option Offence
offence_1 p = first_in repeated (kinds_of_names p)

-- ---- rule 2: each reference names a declared thing

abbrev pub is_declared : List (List ℕ) → List ℕ → Bool
is_declared names name = list_any (λ n. bytes_eq n name) names

-- a reference: the names that are declared, and the name
abbrev pub Reference : Type 0
Reference = List (List ℕ) × List ℕ

-- whoever makes it is named first
abbrev pub undeclared : List ℕ → Reference → Option Offence
undeclared by r = unless (is_declared r.0 r.1) (two by r.1)

-- the logical names of a component that want a region, and those that want a channel
abbrev pub wanted_regions : Option Component → List (List ℕ)
wanted_regions None = []
wanted_regions (Some c) = map (λ x. x.logical) c.memory

abbrev pub wanted_channels : Option Component → List (List ℕ)
wanted_channels None = []
wanted_channels (Some c) = map (λ x. x.logical) c.channels

-- what an entry may stand for: channels where its logical name wants one, else regions
abbrev pub physical_names : Source → Option Component → List ℕ → List (List ℕ)
physical_names p c logical =
    if is_declared (wanted_channels c) logical then map (λ x. x.name) p.channels else map (λ r. r.name) p.memory

abbrev pub entry_references : Source → Option Component → MapEntry → List Reference
entry_references p c e = (wanted_regions c ++ wanted_channels c, e.logical) ∷ (physical_names p c e.logical, e.physical) ∷ []

abbrev pub component_references : Source → Option ComponentUse → List Reference
component_references p None = []
component_references p (Some used) =
    (map (λ c. c.name) p.components, used.used) ∷ flat_map (entry_references p (component_by p (Some used))) used.map

-- the device of a use, and of it these names
abbrev pub device_names : Source → (Device → List (List ℕ)) → List ℕ → List (List ℕ)
device_names p names_of name = option_map_or names_of (find (λ d. bytes_eq d.name name) p.devices) []

abbrev pub device_references : Source → DeviceUse → List Reference
device_references p d =
    (map (λ d. d.name) p.devices, d.device)
    ∷ map (λ m. (device_names p (λ d. map (λ m. m.name) d.memory) d.device, m.memory)) d.memory
    ++ map (λ x. (device_names p (λ d. map (λ x. x.name) d.io_ports) d.device, x)) d.io_ports
    ++ map (λ i. (device_names p (λ d. map (λ i. i.name) d.irqs) d.device, i.irq)) d.irqs

abbrev pub subject_references : Source → Subject → List Reference
subject_references p s =
    component_references p s.component
    ++ map (λ m. (map (λ r. r.name) p.memory, m.region)) s.memory
    ++ map (λ c. (map (λ c. c.name) p.channels, c.channel)) s.channels
    ++ flat_map (device_references p) s.devices
    ++ map (λ e. (map (λ e. e.name) p.events, e.event)) s.sources
    ++ map (λ e. (map (λ e. e.name) p.events, e.event)) s.targets
    ++ map (λ m. (map (λ s. s.name) p.subjects, m.subject)) s.monitors

abbrev pub group_references : Source → Group → List Reference
group_references p g = map (λ name. (map (λ s. s.name) p.subjects, name)) g.subjects

abbrev pub frame_references : Source → MajorFrame → List Reference
frame_references p m = flat_map (λ c. map (λ f. (map (λ g. g.name) p.scheduling.groups, f.group)) c.minor_frames) m.cpus

-- each subject's, then the groups' members, then the frames' groups
unfoldable pub offence_2 : Source → Option Offence
offence_2 p =
    first_of (
    first_in (λ s. first_in (undeclared s.name) (subject_references p s)) p.subjects
    ∷ first_in (λ g. first_in (undeclared g.name) (group_references p g)) p.scheduling.groups
    ∷ first_in (λ m. first_in (undeclared (major_name m.0)) (frame_references p m.1)) (majors_of p)
    ∷ []
    )

-- ---- rule 3: CPUs

unfoldable pub offence_3 : Source → Option Offence
offence_3 p =
    let has : ℕ → Bool = λ cpu. nat_lt cpu p.processor.logical_cpus in
    first_of (
    unless (nat_le 1 p.processor.logical_cpus && nat_le p.processor.logical_cpus MOST_CPUS) (alone (codes "processor"))
    ∷ first_in (λ s. unless (has s.cpu) (alone s.name)) p.subjects
    ∷ first_in (λ g. unless (has g.cpu) (alone g.name)) p.scheduling.groups
    ∷ first_in (λ m. first_in (λ c. unless (has c.cpu) (two (major_name m.0) (cpu_name c.cpu))) m.1.cpus) (majors_of p)
    ∷ []
    )

-- ---- rule 4: addresses and sizes

abbrev pub is_page_size : ℕ → Bool
is_page_size n = is_page_aligned n && nat_lt 0 n

-- a range of physical memory
abbrev pub is_physical : ℕ → ℕ → Bool
is_physical address size = is_page_aligned address && is_page_size size && nat_le (address + size) PHYSICAL_END

-- a range of guest addresses
abbrev pub is_guest : ℕ → ℕ → Bool
is_guest address size = is_page_aligned address && is_page_size size && nat_le (address + size) GUEST_END

abbrev pub is_alignment : ℕ → Bool
is_alignment n = (n == PAGE) || (n == LARGE_PAGE)

abbrev pub is_fixed : Region → Option ℕ → Bool
is_fixed r None = true
is_fixed r (Some address) = is_physical address r.size && (address % r.alignment == 0)

abbrev pub is_laid : Region → Bool
is_laid r = is_page_size r.size && is_alignment r.alignment && is_fixed r r.physical_address

abbrev pub component_offence : Component → Option Offence
component_offence c =
    first_of (
    first_in (λ x. unless (is_guest x.virtual_address x.size) (two c.name x.logical)) c.provides
    ∷ first_in (λ x. unless (is_guest x.virtual_address x.size) (two c.name x.logical)) c.memory
    ∷ first_in (λ x. unless (is_guest x.virtual_address x.size) (two c.name x.logical)) c.channels
    ∷ []
    )

-- the name of what a window shows; a provided region's is its logical name, a device's memory's its own, a state page's
-- its subject's
abbrev pub shown_name : Thing → List ℕ
shown_name (region name) = name
shown_name (channel name) = name
shown_name (provided subject logical) = logical
shown_name (device_memory device memory) = memory
shown_name (state subject) = subject

abbrev pub window_extent : Window Thing → Extent
window_extent w = record { name = shown_name w.thing; address = w.guest; size = w.size }

-- the windows of a subject, as named ranges of guest addresses
unfoldable pub window_extents : Source → Subject → List Extent
window_extents p s = map window_extent (windows_of p s)

abbrev pub window_offence : Source → Subject → Option Offence
window_offence p s = first_in (λ e. unless (is_guest e.address e.size) (two s.name e.name)) (window_extents p s)

unfoldable pub offence_4 : Source → Option Offence
offence_4 p =
    first_of (
    first_in (λ b. unless (is_physical b.physical_address b.size) (alone b.name)) p.memory_blocks
    ∷ first_in (λ d. first_in (λ m. unless (is_physical m.physical_address m.size) (two d.name m.name)) d.memory) p.devices
    ∷ first_in (λ r. unless (is_laid r) (alone r.name)) p.memory
    ∷ first_in (λ c. unless (is_page_size c.size) (alone c.name)) p.channels
    ∷ first_in component_offence p.components
    ∷ first_in (window_offence p) p.subjects
    ∷ []
    )

-- ---- rule 5: the windows of a subject are disjoint

-- two ranges of addresses share none
abbrev pub are_apart : Extent → Extent → Bool
are_apart a b = share_none a.address (a.address + a.size) b.address (b.address + b.size)

abbrev pub overlapping : Extent → Extent → Option Offence
overlapping a b = unless (are_apart a b) (two a.name b.name)

-- the first two that overlap
unfoldable pub first_overlap : List Extent → Option Offence
first_overlap extents = first_pair overlapping extents

unfoldable pub offence_5 : Source → Option Offence
offence_5 p = first_in (λ s. first_overlap (window_extents p s)) p.subjects

-- ---- rule 8: what one subject may write, no other maps, but for regions that are shared

abbrev pub maps : Source → List ℕ → Subject → Bool
maps p name s = list_any (λ w. same_thing w.thing (region name)) (windows_of p s)

abbrev pub writes : Source → List ℕ → Subject → Bool
writes p name s = list_any (λ w. same_thing w.thing (region name) && allows w.rights Write) (windows_of p s)

-- the first other subject, where some subject writes
abbrev pub other_than : Source → List ℕ → Option Subject → Option Offence
other_than p name None = None
other_than p name (Some writer) =
    option_map (λ s. two name s.name) (find (λ s. not (bytes_eq s.name writer.name) && maps p name s) p.subjects)

-- a subject that maps a region, and that its list doesn't name
abbrev pub stranger : Source → Region → Subject → Bool
stranger p r s = maps p r.name s && not (is_declared r.shared_memory s.name)

-- a name in a region's list, behind these: it isn't among them, and it is that of a subject that maps the region
abbrev pub is_sharer : Source → Region → List (List ℕ) → List ℕ → Bool
is_sharer p r before name =
    not (is_declared before name) && list_any (λ s. bytes_eq s.name name && maps p r.name s) p.subjects

-- of a region with a list: the first stranger, else the first name that is none of a sharer
abbrev pub sharing_offence : Source → Region → Option Offence
sharing_offence p r =
    option_or (option_map (λ s. two r.name s.name) (find (stranger p r) p.subjects))
    (first_after (λ before name. unless (is_sharer p r before name) (two r.name name)) [] r.shared_memory)

abbrev pub writing_offence : Source → Region → Option Offence
writing_offence p r =
    if length r.shared_memory == 0 then other_than p r.name (find (writes p r.name) p.subjects) else sharing_offence p r

unfoldable pub offence_8 : Source → Option Offence
offence_8 p = first_in (writing_offence p) p.memory

-- ---- rule 16: major frames

abbrev pub group_cpu : Source → List ℕ → Option ℕ
group_cpu p name = option_map (λ g. g.cpu) (find (λ g. bytes_eq g.name name) p.scheduling.groups)

abbrev pub is_on : Option ℕ → ℕ → Bool
is_on None cpu = false
is_on (Some c) cpu = c == cpu

-- a minor frame of this CPU: it has ticks, and its group is on the CPU
abbrev pub is_frame : Source → ℕ → MinorFrame → Bool
is_frame p cpu f = nat_lt 0 f.ticks && is_on (group_cpu p f.group) cpu

abbrev pub ticks_in : CpuFrames → ℕ
ticks_in c = sum_by (λ f. f.ticks) c.minor_frames

-- its CPU wasn't listed before; it has a minor frame; each is one of this CPU; its ticks are those of the first entry
abbrev pub is_entry : Source → List CpuFrames → CpuFrames → Bool
is_entry p before c =
    not (list_any (λ b. b.cpu == c.cpu) before)
    && nat_lt 0 (length c.minor_frames)
    && list_all (is_frame p c.cpu) c.minor_frames
    && option_map_or (λ b. ticks_in b == ticks_in c) (slice_get before 0) true

-- the listed entries, then the CPUs that aren't named
abbrev pub major_offence : Source → ℕ × MajorFrame → Option Offence
major_offence p (k, m) =
    first_of (
    first_after (λ before c. unless (is_entry p before c) (two (major_name k) (cpu_name c.cpu))) [] m.cpus
    ∷ first_in (λ cpu. unless (list_any (λ c. c.cpu == cpu) m.cpus) (two (major_name k) (cpu_name cpu))) (numbers_below p.processor.logical_cpus)
    ∷ []
    )

-- the subject that chooses frames is declared; its region is one that isn't shared; and the subject may write it
abbrev pub tau0_offence : Source → Option Tau0 → Option Offence
tau0_offence p None = None
tau0_offence p (Some t) =
    first_of (
    unless (is_declared (map (λ s. s.name) p.subjects) t.subject) (two (codes "tau0") t.subject)
    ∷ unless (list_any (λ r. bytes_eq r.name t.region && (length r.shared_memory == 0)) p.memory) (two (codes "tau0") t.region)
    ∷ unless (list_any (λ s. bytes_eq s.name t.subject && writes p t.region s) p.subjects) (two (codes "tau0") t.region)
    ∷ []
    )

-- the major frames, then who chooses them
unfoldable pub offence_16 : Source → Option Offence
offence_16 p = option_or (first_in (major_offence p) (majors_of p)) (tau0_offence p p.scheduling.tau0)

-- ---- rule 17: groups and their members

abbrev pub subject_cpu : Source → List ℕ → Option ℕ
subject_cpu p name = option_map (λ s. s.cpu) (find (λ s. bytes_eq s.name name) p.subjects)

abbrev pub is_group : Source → Group → Bool
is_group p g = nat_lt 0 (length g.subjects) && list_all (λ name. is_on (subject_cpu p name) g.cpu) g.subjects

-- how often a subject is listed
abbrev pub times_listed : Source → List ℕ → ℕ
times_listed p name = sum_by (λ g. count_by (λ n. bytes_eq n name) g.subjects) p.scheduling.groups

unfoldable pub offence_17 : Source → Option Offence
offence_17 p =
    first_of (
    first_in (λ g. unless (is_group p g) (alone g.name)) p.scheduling.groups
    ∷ first_in (λ s. unless (times_listed p s.name == 1) (alone s.name)) p.subjects
    ∷ []
    )

-- ---- rule 18: blocks and the devices' memory are disjoint

abbrev pub extents_of : Source → List Extent
extents_of p =
    map (λ b. record { name = b.name; address = b.physical_address; size = b.size }) p.memory_blocks
    ++ flat_map (λ d. map (λ m. record { name = m.name; address = m.physical_address; size = m.size }) d.memory) p.devices

unfoldable pub offence_18 : Source → Option Offence
offence_18 p = first_overlap (extents_of p)

-- ---- rule 20: the limits

abbrev pub at_most : ℕ → ℕ → List ℕ → Option Offence
at_most n most name = unless (nat_le n most) (alone name)

abbrev pub device_limit : Device → Option Offence
device_limit d =
    unless (nat_le (length d.memory) MOST_PER_DEVICE && nat_le (length d.io_ports) MOST_PER_DEVICE && nat_le (length d.irqs) MOST_PER_DEVICE) (alone d.name)

-- how many MSRs a range has
abbrev pub msrs_in : Subject → ℕ
msrs_in s = sum_by (λ r. (r.end + 1) - r.start) s.msrs

abbrev pub subject_limit : Source → Subject → Option Offence
subject_limit p s = unless (nat_le (length (window_extents p s)) MOST_WINDOWS && nat_le (msrs_in s) MOST_MSRS) (alone s.name)

-- the regions that a subject adds: those that its component provides, and those of the kernel
abbrev pub regions_for : Source → Subject → ℕ
regions_for p s = option_map_or (λ c. length c.provides) (component_by p s.component) 0 + KERNEL_REGIONS

-- an entry of a major frame, which has as many ticks as its first entry
abbrev pub is_short : CpuFrames → Bool
is_short c = nat_le (ticks_in c) MOST_TICKS && nat_le (length c.minor_frames) MOST_MINOR_FRAMES

abbrev pub major_limit : ℕ × MajorFrame → Option Offence
major_limit (k, m) = unless (list_all is_short m.cpus) (alone (major_name k))

unfoldable pub offence_20 : Source → Option Offence
offence_20 p =
    first_of (
    at_most (length p.memory_blocks) MOST_BLOCKS (codes "memoryBlocks")
    ∷ at_most (sum_by (λ b. b.size) p.memory_blocks) MOST_BLOCK_BYTES (codes "memoryBlocks")
    ∷ at_most (length p.devices) MOST_DEVICES (codes "devices")
    ∷ first_in device_limit p.devices
    ∷ at_most (sum_by (λ d. length d.memory) p.devices) MOST_DEVICE_WINDOWS (codes "devices")
    ∷ at_most (sum_by (λ d. sum_by (λ m. m.size) d.memory) p.devices) MOST_DEVICE_BYTES (codes "devices")
    ∷ at_most (length p.channels) MOST_CHANNELS (codes "channels")
    ∷ at_most (length p.components) MOST_COMPONENTS (codes "components")
    ∷ first_in (λ c. at_most (length (logical_names c)) MOST_LOGICAL_NAMES c.name) p.components
    ∷ at_most (length p.events + count_by (λ c. is_some c.has_event) p.channels) MOST_EVENTS (codes "events")
    ∷ unless (nat_le 1 (length p.subjects) && nat_le (length p.subjects) MOST_SUBJECTS) (alone (codes "subjects"))
    ∷ first_in (subject_limit p) p.subjects
    ∷ at_most (length p.memory + length p.channels + sum_by (regions_for p) p.subjects) MOST_REGIONS (codes "memory")
    ∷ unless (nat_le 1 (length p.scheduling.major_frames) && nat_le (length p.scheduling.major_frames) MOST_MAJOR_FRAMES) (alone (codes "majorFrames"))
    ∷ first_in major_limit (majors_of p)
    ∷ []
    )
