-- What a component's entry refers to, among the names of what the component wants.
use Rattle.std.specs.Prelude.{◌≡◌, ℕ, ◌&&◌, Bool, List, length, map, nat_lt, Option, slice_get, if◌then◌else◌}
use Rattle.std.specs.List.{list_all}
use Rattle.std.specs.Option.{option_or}
use Rattle.muen_num.specs.Search.{first_in}
use Rattle.policy_lawful.specs.Resolution.{entry_in_range, entry_named, name_at}
use Rattle.policy_lawful.specs.Rules.{entry_references, is_declared, undeclared}
use Rattle.policy_lawful.specs.declared.offence.Offence.{Offence}
use Rattle.policy_lawful.specs.declared.resolved.ComponentUse.{ComponentUse as ResolvedUse}
use Rattle.policy_lawful.specs.declared.resolved.MapEntry.{MapEntry as ResolvedEntry}
use Rattle.policy_lawful.specs.declared.resolved.Wanted.{Wanted}
use Rattle.policy_lawful.specs.declared.resolved.Wanted.TheVariants.{Memory as WantedMemory, Channel as WantedChannel}
use Rattle.policy_lawful.specs.source.ComponentUse.{ComponentUse}
use Rattle.policy_lawful.specs.source.MapEntry.{MapEntry}
use Rattle.policy_lawful.specs.source.Source.{Source}
use Rattle.policy_names.specs.Outline.{bare_resolution}
use Rattle.policy_names.specs.Indexes.{StandsFor}
use Rattle.policy_names.specs.declared.parts.WantedNames.{WantedNames}

-- the first name that isn't there: the physical one among the channels where the logical one wants one, else among the
-- regions
abbrev pub map_entry_offence : Source → WantedNames → List ℕ → MapEntry → Option Offence
map_entry_offence p names by e =
    if is_declared names.channels e.logical then undeclared by (map (λ c. c.name) p.channels, e.physical)
    else option_or (undeclared by (names.regions, e.logical)) (undeclared by (map (λ r. r.name) p.memory, e.physical))

-- the entry that has these names
abbrev pub entry_among : Source → WantedNames → Wanted → ResolvedEntry → MapEntry
entry_among p names (WantedMemory index) e = record {
  logical = name_at names.regions index;
  physical = name_at (map (λ r. r.name) p.memory) e.physical;
  rights = e.rights;
}
entry_among p names (WantedChannel index) e = record {
  logical = name_at names.channels index;
  physical = name_at (map (λ c. c.name) p.channels) e.physical;
  rights = e.rights;
}

-- its indexes are in range
abbrev pub entry_there : Source → WantedNames → Wanted → ℕ → Bool
entry_there p names (WantedMemory index) physical = nat_lt index (length names.regions) && nat_lt physical (length p.memory)
entry_there p names (WantedChannel index) physical = nat_lt index (length names.channels) && nat_lt physical (length p.channels)

-- an entry by indexes stands for this one
abbrev pub EntryStands : Source → WantedNames → MapEntry → ResolvedEntry → Type 0
EntryStands p names = StandsFor (λ e. entry_among p names e.logical e) (λ e. entry_there p names e.logical e.physical)

-- the first name in the entries of a use that isn't declared, in a subject that has this name
abbrev pub entries_offence : Source → List ℕ → ℕ → ComponentUse → Option Offence
entries_offence p by index c = first_in (λ e. first_in (undeclared by) (entry_references p (slice_get p.components index) e)) c.map

-- the entries of a use stand for those of another, and its component stands at this index
pub record EntriesStand (p : Source) (index : ℕ) (c : ComponentUse) (r : ResolvedUse) : Type 0 where
  pub used : r.used ≡ index
  pub map : StandsFor {X = List ResolvedEntry} {Y = List MapEntry} (map (λ e. entry_named (bare_resolution p) index e.logical e)) (list_all (λ e. entry_in_range (bare_resolution p) index e.logical e.physical)) c.map r.map
