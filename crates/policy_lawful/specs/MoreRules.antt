-- The rules on channels, components, devices, MSRs, events and fixed addresses, each by its first offence in the
-- document's order (Muen system policy, in this project's profile).
use Rattle.std.specs.Prelude.{ℕ, ◌+◌, ◌==◌, ◌&&◌, ◌||◌, not, Bool, true, false, List, [], ◌∷◌, ◌++◌, length, map, filter, nat_lt, nat_le, Option, Some, None, is_some, option_map}
use Rattle.std.specs.Option.{option_or, option_map_or}
use Rattle.std.specs.List.{find, list_any, list_all, filter_map, flat_map, sum_by, count_by}
use Rattle.std.specs.Str.{bytes_eq}
use Rattle.muen_num.specs.declared.mode.EventMode.{EventMode}
use Rattle.muen_num.specs.declared.mode.EventMode.TheVariants.{Own, Switch}
use Rattle.muen_num.specs.declared.limits.TheConstants.{FIRST_VECTOR, HIGH_MSR_FIRST, HIGH_MSR_LAST, LAST_PORT, LAST_VECTOR, LOW_MSR_LAST, MOST_CALLS}
use Rattle.muen_num.specs.Search.{first_of, first_in, first_after, unless}
use Rattle.policy_lawful.specs.Offences.{alone, two}
use Rattle.policy_lawful.specs.Ranges.{in_a_block, share_none}
use Rattle.policy_lawful.specs.Rules.{are_apart}
use Rattle.policy_meaning.specs.Thing.{component_by}
use Rattle.policy_meaning.specs.Events.{ChannelEnd, channel_ends, traps_of}
use Rattle.policy_lawful.specs.declared.offence.Extent.{Extent}
use Rattle.policy_lawful.specs.declared.offence.Offence.{Offence}
use Rattle.policy_types.specs.Rights.{includes}
use Rattle.policy_types.specs.declared.rights.Rights.{Rights}
use Rattle.policy_types.specs.declared.rights.Role.{Role}
use Rattle.policy_types.specs.declared.rights.Role.TheVariants.{Writer, Reader}
use Rattle.policy_types.specs.declared.source.Source.{Source}
use Rattle.policy_types.specs.declared.source.Device.{Device}
use Rattle.policy_types.specs.declared.source.Ports.{Ports}
use Rattle.policy_types.specs.declared.source.Region.{Region}
use Rattle.policy_types.specs.declared.source.Channel.{Channel}
use Rattle.policy_types.specs.declared.source.Component.{Component}
use Rattle.policy_types.specs.declared.source.ComponentUse.{ComponentUse}
use Rattle.policy_types.specs.declared.source.ComponentChannel.{ComponentChannel}
use Rattle.policy_types.specs.declared.source.Required.{Required}
use Rattle.policy_types.specs.declared.source.MapEntry.{MapEntry}
use Rattle.policy_types.specs.declared.source.DeviceUse.{DeviceUse}
use Rattle.policy_types.specs.declared.source.Msrs.{Msrs}
use Rattle.policy_types.specs.declared.source.EventTarget.{EventTarget}
use Rattle.policy_types.specs.declared.source.SourceWay.{SourceWay}
use Rattle.policy_types.specs.declared.source.SourceWay.TheVariants.{Call, Trap}
use Rattle.policy_types.specs.declared.source.Subject.{Subject}
use Rattle.muen_num.specs.Numbers.{are_distinct}

-- ---- rule 6: the entries of a channel

-- a subject's end of a channel, with the subject
abbrev pub ends_of_channel : Source → List ℕ → List (List ℕ × ChannelEnd)
ends_of_channel p name =
    flat_map (λ s. map (λ e. (s.name, e)) (filter (λ e. bytes_eq e.channel name) (channel_ends p s))) p.subjects

abbrev pub is_writer : Role → Bool
is_writer Writer = true
is_writer Reader = false

abbrev pub writers_of : Source → List ℕ → List (List ℕ × ChannelEnd)
writers_of p name = filter (λ e. is_writer e.1.role) (ends_of_channel p name)

abbrev pub readers_of : Source → List ℕ → List (List ℕ × ChannelEnd)
readers_of p name = filter (λ e. not (is_writer e.1.role)) (ends_of_channel p name)

abbrev pub is_switch : EventMode → Bool
is_switch Switch = true
is_switch _ = false

-- what the mode of a channel's event, or its absence, asks of the entries
abbrev pub fits_event : List (List ℕ × ChannelEnd) → List (List ℕ × ChannelEnd) → Option EventMode → Bool
fits_event writers readers None =
    list_all (λ e. not (is_some e.1.call) && not (is_some e.1.vector)) (writers ++ readers)
fits_event writers readers (Some mode) =
    (length readers == 1)
    && list_all (λ e. is_some e.1.call && not (is_some e.1.vector)) writers
    && list_all (λ e. not (is_some e.1.call) && (is_some e.1.vector || is_switch mode)) readers

abbrev pub is_connected : Source → Channel → Bool
is_connected p c =
    (length (writers_of p c.name) == 1)
    && nat_le 1 (length (readers_of p c.name))
    && list_all (λ w. list_all (λ r. not (bytes_eq r.0 w.0)) (readers_of p c.name)) (writers_of p c.name)
    && fits_event (writers_of p c.name) (readers_of p c.name) c.has_event

unfoldable pub offence_6 : Source → Option Offence
offence_6 p = first_in (λ c. unless (is_connected p c) (alone c.name)) p.channels

-- ---- rule 7: the map entries of a subject's component

abbrev pub entries_for : ComponentUse → List ℕ → List MapEntry
entries_for used logical = filter (λ e. bytes_eq e.logical logical) used.map

-- no more rights than these
abbrev pub are_within : Rights → Option Rights → Bool
are_within most None = true
are_within most (Some rights) = includes most rights

abbrev pub is_memory_mapped : Source → ComponentUse → Required → Bool
is_memory_mapped p used x =
    (length (entries_for used x.logical) == 1)
    && list_all (λ e. option_map_or (λ r. r.size == x.size) (find (λ r. bytes_eq r.name e.physical) p.memory) false && are_within x.rights e.rights) (entries_for used x.logical)

abbrev pub is_channel_mapped : Source → ComponentUse → ComponentChannel → Bool
is_channel_mapped p used x =
    (length (entries_for used x.logical) == 1)
    && list_all (λ e. option_map_or (λ c. c.size == x.size) (find (λ c. bytes_eq c.name e.physical) p.channels) false && not (is_some e.rights)) (entries_for used x.logical)

abbrev pub use_offence : Source → List ℕ → Option ComponentUse → Option Component → Option Offence
use_offence p by (Some used) (Some c) =
    option_or (first_in (λ x. unless (is_memory_mapped p used x) (two by x.logical)) c.memory)
    (first_in (λ x. unless (is_channel_mapped p used x) (two by x.logical)) c.channels)
use_offence p by _ _ = None

unfoldable pub offence_7 : Source → Option Offence
offence_7 p = first_in (λ s. use_offence p s.name s.component (component_by p s.component)) p.subjects

-- ---- rule 9: what is granted of a device

-- how often these names of this device are granted this one
abbrev pub times_granted : Source → List ℕ → (DeviceUse → List (List ℕ)) → List ℕ → ℕ
times_granted p device names_of name =
    sum_by (λ s. sum_by (λ u. count_by (λ n. bytes_eq n name) (names_of u)) (filter (λ u. bytes_eq u.device device) s.devices)) p.subjects

abbrev pub granted_once : Source → Device → (DeviceUse → List (List ℕ)) → List ℕ → Option Offence
granted_once p d names_of name = unless (nat_le (times_granted p d.name names_of name) 1) (two d.name name)

abbrev pub device_offence : Source → Device → Option Offence
device_offence p d =
    first_of (
    first_in (λ x. granted_once p d (λ u. map (λ m. m.memory) u.memory) x.name) d.memory
    ∷ first_in (λ x. granted_once p d (λ u. u.io_ports) x.name) d.io_ports
    ∷ first_in (λ x. granted_once p d (λ u. map (λ i. i.irq) u.irqs) x.name) d.irqs
    ∷ []
    )

unfoldable pub offence_9 : Source → Option Offence
offence_9 p = first_in (device_offence p) p.devices

-- ---- rule 10: ports

abbrev pub device_ports : Source → List Ports
device_ports p = flat_map (λ d. d.io_ports) p.devices

abbrev pub ports_apart : Ports → Ports → Bool
ports_apart a b = share_none a.start (a.end + 1) b.start (b.end + 1)

-- a range by itself, then against each before it
abbrev pub ports_offence : List Ports → Ports → Option Offence
ports_offence before x =
    option_or (unless (nat_le x.start x.end && nat_le x.end LAST_PORT) (alone x.name))
    (first_in (λ b. unless (ports_apart b x) (two b.name x.name)) before)

unfoldable pub offence_10 : Source → Option Offence
offence_10 p = first_after ports_offence [] (device_ports p)

-- ---- rule 11: MSRs

-- both ends in one of the two ranges of an MSR bitmap
abbrev pub is_msr_range : Msrs → Bool
is_msr_range x =
    nat_le x.start x.end && (nat_le x.end LOW_MSR_LAST || (nat_le HIGH_MSR_FIRST x.start && nat_le x.end HIGH_MSR_LAST))

abbrev pub msrs_apart : List Msrs → Bool
msrs_apart [] = true
msrs_apart (x ∷ xs) = list_all (λ y. share_none x.start (x.end + 1) y.start (y.end + 1)) xs && msrs_apart xs

unfoldable pub offence_11 : Source → Option Offence
offence_11 p = first_in (λ s. unless (list_all is_msr_range s.msrs && msrs_apart s.msrs) (alone s.name)) p.subjects

-- ---- rules 12 and 13: sources and targets

-- the subjects of an event's source entries, and of its target entries
abbrev pub sources_of : Source → List ℕ → List (List ℕ)
sources_of p name = flat_map (λ s. map (λ e. s.name) (filter (λ e. bytes_eq e.event name) s.sources)) p.subjects

abbrev pub targets_of : Source → List ℕ → List (List ℕ)
targets_of p name = flat_map (λ s. map (λ e. s.name) (filter (λ e. bytes_eq e.event name) s.targets)) p.subjects

unfoldable pub offence_12 : Source → Option Offence
offence_12 p =
    first_in (λ e. unless (nat_le 1 (length (sources_of p e.name)) && (length (targets_of p e.name) == 1)) (alone e.name)) p.events

abbrev pub some_group_lists : Source → List ℕ → List ℕ → Bool
some_group_lists p a b =
    list_any (λ g. list_any (λ n. bytes_eq n a) g.subjects && list_any (λ n. bytes_eq n b) g.subjects) p.scheduling.groups

-- which source and target an event of this mode may have
abbrev pub fits_mode : Source → EventMode → List ℕ → List ℕ → Bool
fits_mode p Own source target = bytes_eq source target
fits_mode p Switch source target = not (bytes_eq source target) && some_group_lists p source target
fits_mode p _ source target = not (bytes_eq source target)

abbrev pub mode_offence : Source → EventMode → List ℕ → List (List ℕ) → List (List ℕ) → Option Offence
mode_offence p mode name sources targets =
    first_in (λ s. unless (list_all (fits_mode p mode s) targets) (two name s)) sources

abbrev pub channel_mode_offence : Source → Channel → Option EventMode → Option Offence
channel_mode_offence p c None = None
channel_mode_offence p c (Some mode) =
    mode_offence p mode c.name (map (λ e. e.0) (writers_of p c.name)) (map (λ e. e.0) (readers_of p c.name))

unfoldable pub offence_13 : Source → Option Offence
offence_13 p =
    option_or (first_in (λ c. channel_mode_offence p c c.has_event) p.channels)
    (first_in (λ e. mode_offence p e.mode e.name (sources_of p e.name) (targets_of p e.name)) p.events)

-- ---- rule 14: calls and traps

abbrev pub call_number : SourceWay → Option ℕ
call_number (Call n) = Some n
call_number (Trap n) = None

abbrev pub calls_of : Source → Subject → List ℕ
calls_of p s = filter_map (λ e. call_number e.way) s.sources ++ filter_map (λ e. e.call) (channel_ends p s)

abbrev pub are_numbers : List ℕ → Bool
are_numbers ns = list_all (λ n. nat_lt n MOST_CALLS) ns && are_distinct ns

unfoldable pub offence_14 : Source → Option Offence
offence_14 p =
    first_in (λ s. unless (are_numbers (calls_of p s) && are_numbers (traps_of s)) (alone s.name)) p.subjects

-- ---- rule 15: vectors

abbrev pub is_switch_event : Source → List ℕ → Bool
is_switch_event p name = option_map_or (λ e. is_switch e.mode) (find (λ e. bytes_eq e.name name) p.events) false

abbrev pub has_vector : Source → EventTarget → Bool
has_vector p t = is_some t.vector || is_switch_event p t.event

-- of its targets, its channels and its devices' interrupts
abbrev pub vectors_of : Source → Subject → List ℕ
vectors_of p s =
    filter_map (λ t. t.vector) s.targets
    ++ filter_map (λ e. e.vector) (channel_ends p s)
    ++ flat_map (λ d. map (λ i. i.vector) d.irqs) s.devices

abbrev pub are_vectors : List ℕ → Bool
are_vectors ns = list_all (λ n. nat_le FIRST_VECTOR n && nat_le n LAST_VECTOR) ns && are_distinct ns

unfoldable pub offence_15 : Source → Option Offence
offence_15 p =
    first_in (λ s. unless (list_all (has_vector p) s.targets && are_vectors (vectors_of p s)) (alone s.name)) p.subjects

-- ---- rule 19: fixed regions

abbrev pub fixed_extent : Region → Option Extent
fixed_extent r = option_map (λ address. record { name = r.name; address = address; size = r.size }) r.physical_address

-- a fixed region by itself, then against each before it
abbrev pub fixed_offence : Source → List Extent → Extent → Option Offence
fixed_offence p before x =
    option_or (unless (in_a_block p.memory_blocks x.address x.size) (alone x.name))
    (first_in (λ b. unless (are_apart b x) (two b.name x.name)) before)

unfoldable pub offence_19 : Source → Option Offence
offence_19 p = first_after (fixed_offence p) [] (filter_map fixed_extent p.memory)
