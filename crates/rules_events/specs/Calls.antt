-- Rule 14 of a resolved policy: calls and traps.
use Rattle.std.specs.Prelude.{ℕ, ◌&&◌, Bool, List, ◌++◌, Option}
use Rattle.std.specs.List.{filter_map}
use Rattle.muen_num.specs.Search.{unless}
use Rattle.policy_lawful.specs.Events.{trap_number}
use Rattle.policy_lawful.specs.MoreRules.{call_number, are_numbers}
use Rattle.policy_lawful.specs.Offences.{alone}
use Rattle.policy_lawful.specs.Resolution.{Resolution}
use Rattle.policy_lawful.specs.declared.offence.Offence.{Offence}
use Rattle.policy_lawful.specs.declared.resolved.Subject.{Subject}
use Rattle.policy_lawful.specs.Views.{channel_ends_of}
use Rattle.policy_lawful.specs.declared.view.IndexedEnd.{IndexedEnd}

-- of a subject with these ends of channels
abbrev pub calls_with : List IndexedEnd → Subject → List ℕ
calls_with ends s = filter_map (λ e. call_number e.way) s.sources ++ filter_map (λ e. e.call) ends

abbrev pub traps_at : Subject → List ℕ
traps_at s = filter_map (λ e. trap_number e.way) s.sources

abbrev pub has_numbers_with : List IndexedEnd → Subject → Bool
has_numbers_with ends s = are_numbers (calls_with ends s) && are_numbers (traps_at s)

abbrev pub calls_at : Resolution → Subject → List ℕ
calls_at r s = calls_with (channel_ends_of r s) s

abbrev pub has_numbers : Resolution → Subject → Bool
has_numbers r s = has_numbers_with (channel_ends_of r s) s

abbrev pub call_offence : Resolution → Subject → Option Offence
call_offence r s = unless (has_numbers r s) (alone s.name)
