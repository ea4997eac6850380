-- The events that a subject raises, by the indexes of a resolved policy, and numbers that fit.
use Rattle.std.specs.Prelude.{ℕ, ◌^◌, ◌==◌, ◌&&◌, Bool, true, List, ◌++◌, map, nat_lt, slice_get, Option, Some, None, option_and_then, option_map}
use Rattle.std.specs.Option.{option_map_or}
use Rattle.std.specs.List.{enumerate_from, filter_map, find, flat_map, list_all}
use Rattle.expand_grants.specs.declared.granted.EventEntry.{EventEntry}
use Rattle.expand_grants.specs.declared.granted.Way.{Way}
use Rattle.expand_grants.specs.declared.granted.Way.TheVariants.{Call, Trap}
use Rattle.expand_grants.specs.declared.reached.Reached.{Reached}
use Rattle.muen_num.specs.declared.mode.EventMode.{EventMode}
use Rattle.policy_lawful.specs.Resolution.{Resolution}
use Rattle.policy_lawful.specs.declared.resolved.EventSource.{EventSource}
use Rattle.policy_lawful.specs.declared.resolved.EventTarget.{EventTarget}
use Rattle.policy_lawful.specs.declared.resolved.Subject.{Subject}
use Rattle.policy_lawful.specs.rights.Role.{Role}
use Rattle.policy_lawful.specs.rights.Role.TheVariants.{Reader, Writer}
use Rattle.policy_lawful.specs.source.Channel.{Channel}
use Rattle.policy_lawful.specs.source.Event.{Event}
use Rattle.policy_lawful.specs.source.SourceWay.{SourceWay}
use Rattle.policy_lawful.specs.source.SourceWay.TheVariants.{Call as SourceCall, Trap as SourceTrap}
use Rattle.policy_lawful.specs.Views.{channel_ends_of}
use Rattle.policy_lawful.specs.declared.view.IndexedEnd.{IndexedEnd}

-- ---- subjects that are reached

abbrev pub target_reached : ℕ → EventTarget → Reached
target_reached index t = record { by = t.event; subject = index; vector = t.vector }

-- by the targets of a subject with its index
abbrev pub subject_targets : ℕ × Subject → List Reached
subject_targets (index, s) = map (target_reached index) s.targets

abbrev pub all_targets : List Subject → List Reached
all_targets subjects = flat_map subject_targets (enumerate_from 0 subjects)

-- a subject at an index by an end of this role
abbrev pub reader_reached : ℕ → IndexedEnd → Role → Option Reached
reader_reached index e Reader = Some (record { by = e.channel; subject = index; vector = e.vector })
reader_reached index e Writer = None

-- by the ends of a subject with its index
abbrev pub subject_readers : Resolution → ℕ × Subject → List Reached
subject_readers r (index, s) = filter_map (λ e. reader_reached index e e.role) (channel_ends_of r s)

abbrev pub all_readers : Resolution → List Reached
all_readers r = flat_map (subject_readers r) (enumerate_from 0 r.subjects)

-- the first by the event, or the channel, at an index
abbrev pub first_reached : List Reached → ℕ → Option Reached
first_reached list index = find (λ x. x.by == index) list

-- ---- events that are raised

abbrev pub granted_way_of : SourceWay → Way
granted_way_of (SourceCall n) = Call n
granted_way_of (SourceTrap n) = Trap n

abbrev pub entry : Way → EventMode → Reached → EventEntry
entry way mode x = record { way = way; mode = mode; target = x.subject; vector = x.vector }

-- by a source
abbrev pub source_entry : List Event → List Reached → EventSource → Option EventEntry
source_entry events targets s = option_and_then (λ e. option_map (entry (granted_way_of s.way) e.mode) (first_reached targets s.event)) (slice_get events s.event)

-- by a call of an end of a channel
abbrev pub call_entry : List Channel → List Reached → ℕ → ℕ → Option EventEntry
call_entry channels readers channel n =
    option_and_then (λ c. option_and_then (λ mode. option_map (entry (Call n) mode) (first_reached readers channel)) c.has_event) (slice_get channels channel)

-- the call of an end of this role by which an event may be raised
abbrev pub writer_call : IndexedEnd → Role → Option ℕ
writer_call e Writer = e.call
writer_call e Reader = None

abbrev pub channel_end_entry : List Channel → List Reached → IndexedEnd → Option EventEntry
channel_end_entry channels readers e = option_and_then (call_entry channels readers e.channel) (writer_call e e.role)

-- by the sources of a subject, then by its ends of channels
abbrev pub event_entries_of : Resolution → Subject → List EventEntry
event_entries_of r s =
    filter_map (source_entry r.events (all_targets r.subjects)) s.sources
    ++ filter_map (channel_end_entry r.channels (all_readers r)) (channel_ends_of r s)

-- ---- numbers that fit

abbrev pub fits_number : Option ℕ → Bool
fits_number n = option_map_or (λ v. nat_lt v (2 ^ 8)) n true

abbrev pub fits_target : EventTarget → Bool
fits_target t = fits_number t.vector

abbrev pub fits_targets : Subject → Bool
fits_targets s = list_all fits_target s.targets

abbrev pub fits_channel_end : IndexedEnd → Bool
fits_channel_end e = fits_number e.call && fits_number e.vector

abbrev pub fits_channel_ends : Resolution → Subject → Bool
fits_channel_ends r s = list_all fits_channel_end (channel_ends_of r s)

abbrev pub fits_way : SourceWay → Bool
fits_way (SourceCall n) = nat_lt n (2 ^ 8)
fits_way (SourceTrap n) = nat_lt n (2 ^ 8)

abbrev pub fits_source : EventSource → Bool
fits_source s = fits_way s.way

abbrev pub fits_sources : Subject → Bool
fits_sources s = list_all fits_source s.sources
