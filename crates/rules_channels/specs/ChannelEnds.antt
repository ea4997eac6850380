-- Who writes each channel and who reads it, by indexes.
use Rattle.std.specs.Prelude.{ℕ, Bool, List, map, filter, not}
use Rattle.std.specs.List.{enumerate_from, flat_map}
use Rattle.policy_lawful.specs.MoreRules.{is_writer}
use Rattle.policy_lawful.specs.Resolution.{Resolution}
use Rattle.policy_lawful.specs.declared.resolved.Subject.{Subject}
use Rattle.policy_lawful.specs.Views.{channel_ends_of}
use Rattle.policy_lawful.specs.declared.view.IndexedEnd.{IndexedEnd}
use Rattle.rules_channels.specs.Parties.{party}
use Rattle.rules_channels.specs.declared.channel_ends.Met.{Met}
use Rattle.rules_channels.specs.declared.parties.Party.{Party}

abbrev pub met : Party → IndexedEnd → Met
met p e = record { party = p; end = e }

-- the ends of a subject with its index, each at its channel
abbrev pub met_channel_ends : Resolution → ℕ × Subject → List (ℕ × Met)
met_channel_ends r (index, s) = map (λ e. (e.channel, met (party (index, s)) e)) (channel_ends_of r s)

abbrev pub all_channel_ends : Resolution → List (ℕ × Met)
all_channel_ends r = flat_map (met_channel_ends r) (enumerate_from 0 r.subjects)

abbrev pub is_writing_end : Met → Bool
is_writing_end m = is_writer m.end.role

abbrev pub is_reading_end : Met → Bool
is_reading_end m = not (is_writer m.end.role)

-- those of writers, and of readers
abbrev pub all_writers : Resolution → List (ℕ × Met)
all_writers r = filter (λ x. is_writer x.1.end.role) (all_channel_ends r)

abbrev pub all_readers : Resolution → List (ℕ × Met)
all_readers r = filter (λ x. not (is_writer x.1.end.role)) (all_channel_ends r)
