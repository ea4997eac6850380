-- Rule 12 of a resolved policy: events with a source and one target.
use Rattle.std.specs.Prelude.{ℕ, ◌==◌, ◌&&◌, not, List, [], length, slice_index_or, Option}
use Rattle.muen_num.specs.Search.{unless}
use Rattle.policy_lawful.specs.Offences.{alone}
use Rattle.policy_lawful.specs.declared.offence.Offence.{Offence}
use Rattle.policy_lawful.specs.source.Event.{Event}
use Rattle.rules_channels.specs.declared.parties.Party.{Party}

-- an event with its index, where so many sources and targets are noted
abbrev pub event_fault : List (List Party) → List (List Party) → ℕ × Event → Option Offence
event_fault sources targets (index, e) =
    unless (not (length (slice_index_or sources index []) == 0) && (length (slice_index_or targets index []) == 1)) (alone e.name)
