-- Rule 13 of a resolved policy: which subjects an event may join, by its mode.
use Rattle.std.specs.Prelude.{ℕ, ◌&&◌, not, Bool, List, [], map, slice_index_or, Option, Some, None}
use Rattle.std.specs.List.{enumerate_from, list_all}
use Rattle.std.specs.Str.{bytes_eq}
use Rattle.muen_num.specs.Search.{first_in, unless}
use Rattle.muen_num.specs.declared.mode.EventMode.{EventMode}
use Rattle.muen_num.specs.declared.mode.EventMode.TheVariants.{Own, Switch}
use Rattle.policy_lawful.specs.Offences.{two}
use Rattle.policy_lawful.specs.declared.offence.Offence.{Offence}
use Rattle.policy_lawful.specs.source.Channel.{Channel}
use Rattle.policy_lawful.specs.source.Event.{Event}
use Rattle.policy_lawful.specs.Resolution.{Resolution}
use Rattle.rules_channels.specs.ByIndex.{items_at_index}
use Rattle.rules_channels.specs.ChannelEnds.{all_readers, all_writers}
use Rattle.muen_num.specs.Numbers.{share}
use Rattle.rules_channels.specs.Parties.{sources_at, targets_at}
use Rattle.rules_channels.specs.declared.channel_ends.Met.{Met}
use Rattle.rules_channels.specs.declared.parties.Party.{Party}

-- an event of this mode may join these subjects, of which the groups are noted
abbrev pub parties_fit_mode : List (List ℕ) → EventMode → Party → Party → Bool
parties_fit_mode groups Own source target = bytes_eq source.name target.name
parties_fit_mode groups Switch source target =
    not (bytes_eq source.name target.name) && share (slice_index_or groups source.index []) (slice_index_or groups target.index [])
parties_fit_mode groups _ source target = not (bytes_eq source.name target.name)

-- a source that doesn't fit all targets, and the first one
abbrev pub source_fault : List (List ℕ) → EventMode → List ℕ → List Party → Party → Option Offence
source_fault groups mode name targets s = unless (list_all (parties_fit_mode groups mode s) targets) (two name s.name)

abbrev pub mode_fault : List (List ℕ) → EventMode → List ℕ → List Party → List Party → Option Offence
mode_fault groups mode name sources targets = first_in (source_fault groups mode name targets) sources

abbrev pub channel_mode : List (List ℕ) → Channel → Option EventMode → List Party → List Party → Option Offence
channel_mode groups c None writers readers = None
channel_mode groups c (Some mode) writers readers = mode_fault groups mode c.name writers readers

-- a channel and an event with its index, where so many parties are noted
abbrev pub channel_mode_fault : List (List ℕ) → List (List Party) → List (List Party) → ℕ × Channel → Option Offence
channel_mode_fault groups writers readers (index, c) =
    channel_mode groups c c.has_event (slice_index_or writers index []) (slice_index_or readers index [])

abbrev pub event_direction_fault : List (List ℕ) → List (List Party) → List (List Party) → ℕ × Event → Option Offence
event_direction_fault groups sources targets (index, e) =
    mode_fault groups e.mode e.name (slice_index_or sources index []) (slice_index_or targets index [])

-- the parties of ends
abbrev pub parties_of : List (List Met) → List (List Party)
parties_of lists = map (map (λ m. m.party)) lists

-- the first channel, and the first event, whose mode doesn't fit
abbrev pub channels_fault : Resolution → List (List ℕ) → Option Offence
channels_fault r groups =
    first_in (λ x. channel_mode groups x.1 x.1.has_event (map (λ m. m.party) (items_at_index x.0 (all_writers r))) (map (λ m. m.party) (items_at_index x.0 (all_readers r)))) (enumerate_from 0 r.channels)

abbrev pub events_fault : Resolution → List (List ℕ) → Option Offence
events_fault r groups =
    first_in (λ x. mode_fault groups x.1.mode x.1.name (sources_at r x.0) (targets_at r x.0)) (enumerate_from 0 r.events)
