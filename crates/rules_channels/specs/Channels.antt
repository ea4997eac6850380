-- Rule 6 of a resolved policy: the ends of a channel.
use Rattle.std.specs.Prelude.{ℕ, ◌==◌, ◌&&◌, ◌||◌, not, Bool, List, [], length, slice_index_or, Option, Some, None, is_some}
use Rattle.std.specs.List.{list_all}
use Rattle.std.specs.Str.{bytes_eq}
use Rattle.muen_num.specs.Search.{unless}
use Rattle.muen_num.specs.declared.mode.EventMode.{EventMode}
use Rattle.policy_lawful.specs.MoreRules.{is_switch}
use Rattle.policy_lawful.specs.Offences.{alone}
use Rattle.policy_lawful.specs.declared.offence.Offence.{Offence}
use Rattle.policy_lawful.specs.source.Channel.{Channel}
use Rattle.rules_channels.specs.declared.channel_ends.Met.{Met}

-- none of the readers is the writer's subject
abbrev pub is_apart_from_readers : List Met → Met → Bool
is_apart_from_readers readers w = list_all (λ r. not (bytes_eq r.party.name w.party.name)) readers

abbrev pub are_ends_apart : List Met → List Met → Bool
are_ends_apart writers readers = list_all (is_apart_from_readers readers) writers

abbrev pub has_neither : Met → Bool
has_neither m = not (is_some m.end.call) && not (is_some m.end.vector)

abbrev pub has_call : Met → Bool
has_call m = is_some m.end.call && not (is_some m.end.vector)

abbrev pub is_reached : EventMode → Met → Bool
is_reached mode m = not (is_some m.end.call) && (is_some m.end.vector || is_switch mode)

-- what the mode of a channel's event, or its absence, asks of the ends
abbrev pub ends_fit_event : List Met → List Met → Option EventMode → Bool
ends_fit_event writers readers None = list_all has_neither writers && list_all has_neither readers
ends_fit_event writers readers (Some mode) =
    (length readers == 1) && list_all has_call writers && list_all (is_reached mode) readers

abbrev pub are_ends_connected : List Met → List Met → Option EventMode → Bool
are_ends_connected writers readers mode =
    (length writers == 1) && not (length readers == 0) && are_ends_apart writers readers && ends_fit_event writers readers mode

-- a channel with its index, where so many writers and readers are noted
abbrev pub channel_fault : List (List Met) → List (List Met) → ℕ × Channel → Option Offence
channel_fault writers readers (index, c) =
    unless (are_ends_connected (slice_index_or writers index []) (slice_index_or readers index []) c.has_event) (alone c.name)
