-- Rule 7 of a resolved policy: the entries for a component's logical names.
use Rattle.std.specs.Prelude.{ℕ, ◌==◌, ◌&&◌, not, Bool, false, List, [], length, slice_get, slice_index_or, Option, Some, None, is_some}
use Rattle.std.specs.Option.{option_map_or, option_or}
use Rattle.std.specs.List.{enumerate_from, filter_map, list_all}
use Rattle.muen_num.specs.Search.{first_in, unless}
use Rattle.policy_lawful.specs.MoreRules.{are_within}
use Rattle.policy_lawful.specs.Offences.{two}
use Rattle.policy_lawful.specs.Resolution.{Resolution}
use Rattle.policy_lawful.specs.declared.offence.Offence.{Offence}
use Rattle.policy_lawful.specs.declared.resolved.ComponentUse.{ComponentUse}
use Rattle.policy_lawful.specs.declared.resolved.MapEntry.{MapEntry}
use Rattle.policy_lawful.specs.declared.resolved.Subject.{Subject}
use Rattle.policy_lawful.specs.declared.resolved.Wanted.{Wanted}
use Rattle.policy_lawful.specs.declared.resolved.Wanted.TheVariants.{Memory as WantedMemory, Channel as WantedChannel}
use Rattle.policy_lawful.specs.source.Channel.{Channel}
use Rattle.policy_lawful.specs.source.Component.{Component}
use Rattle.policy_lawful.specs.source.ComponentChannel.{ComponentChannel}
use Rattle.policy_lawful.specs.source.Region.{Region}
use Rattle.policy_lawful.specs.source.Required.{Required}
use Rattle.rules_channels.specs.ByIndex.{items_at_index}
use Rattle.rules_channels.specs.declared.components.Grant.{Grant}

abbrev pub grant : MapEntry → Grant
grant e = record { physical = e.physical; rights = e.rights }

-- what an entry gives to a logical name that wants a region, or a channel, with that name's index
abbrev pub memory_grant : MapEntry → Wanted → Option (ℕ × Grant)
memory_grant e (WantedMemory k) = Some (k, grant e)
memory_grant e (WantedChannel k) = None

abbrev pub channel_grant : MapEntry → Wanted → Option (ℕ × Grant)
channel_grant e (WantedMemory k) = None
channel_grant e (WantedChannel k) = Some (k, grant e)

abbrev pub gives_region : List Region → Required → Grant → Bool
gives_region regions x g = option_map_or (λ r. (r.size == x.size) && are_within x.rights g.rights) (slice_get regions g.physical) false

abbrev pub gives_channel : List Channel → ComponentChannel → Grant → Bool
gives_channel channels x g = option_map_or (λ c. (c.size == x.size) && not (is_some g.rights)) (slice_get channels g.physical) false

-- given by one entry, and as it is asked for
abbrev pub is_memory_given : List Region → Required → List Grant → Bool
is_memory_given regions x grants = (length grants == 1) && list_all (gives_region regions x) grants

abbrev pub is_channel_given : List Channel → ComponentChannel → List Grant → Bool
is_channel_given channels x grants = (length grants == 1) && list_all (gives_channel channels x) grants

-- what is asked for with its index, where so much is noted for each logical name
abbrev pub memory_fault : List Region → List ℕ → List (List Grant) → ℕ × Required → Option Offence
memory_fault regions by grants (index, x) = unless (is_memory_given regions x (slice_index_or grants index [])) (two by x.logical)

abbrev pub component_channel_fault : List Channel → List ℕ → List (List Grant) → ℕ × ComponentChannel → Option Offence
component_channel_fault channels by grants (index, x) = unless (is_channel_given channels x (slice_index_or grants index [])) (two by x.logical)

-- what the entries give to the logical name at an index
abbrev pub memory_given : List MapEntry → ℕ → List Grant
memory_given entries index = items_at_index index (filter_map (λ e. memory_grant e e.logical) entries)

abbrev pub channel_given : List MapEntry → ℕ → List Grant
channel_given entries index = items_at_index index (filter_map (λ e. channel_grant e e.logical) entries)

-- the first region, and the first channel, that the entries don't give
abbrev pub memory_offence : List Region → List ℕ → List MapEntry → List Required → Option Offence
memory_offence regions by entries wanted =
    first_in (λ x. unless (is_memory_given regions x.1 (memory_given entries x.0)) (two by x.1.logical)) (enumerate_from 0 wanted)

abbrev pub channel_offence : List Channel → List ℕ → List MapEntry → List ComponentChannel → Option Offence
channel_offence channels by entries wanted =
    first_in (λ x. unless (is_channel_given channels x.1 (channel_given entries x.0)) (two by x.1.logical)) (enumerate_from 0 wanted)

abbrev pub component_map_offence : Resolution → List ℕ → List MapEntry → Component → Option Offence
component_map_offence r by entries c = option_or (memory_offence r.memory by entries c.memory) (channel_offence r.channels by entries c.channels)

-- the first of a subject's component
abbrev pub component_use_offence : Resolution → List ℕ → Option ComponentUse → Option Offence
component_use_offence r by None = None
component_use_offence r by (Some used) = option_map_or (component_map_offence r by used.map) (slice_get r.components used.used) None

abbrev pub subject_offence : Resolution → Subject → Option Offence
subject_offence r s = component_use_offence r s.name s.component
