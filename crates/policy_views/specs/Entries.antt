-- For each logical name of a kind the first entry that a subject has for it, in a map by indexes.
use Rattle.std.specs.Prelude.{◌≡◌, ℕ, Bool, true, false, List, slice_get, Option, Some, None, option_and_then, option_map, unwrap_or}
use Rattle.std.specs.BTreeMap.{BTreeMap, get}
use Rattle.std.specs.Option.{option_or}
use Rattle.std.specs.Ordering.{nat_cmp}
use Rattle.policy_lawful.specs.Resolution.{Resolution}
use Rattle.policy_lawful.specs.declared.resolved.MapEntry.{MapEntry}
use Rattle.policy_lawful.specs.declared.resolved.Wanted.{Wanted}
use Rattle.policy_lawful.specs.declared.resolved.Wanted.TheVariants.{Memory as WantedMemory, Channel as WantedChannel}
use Rattle.policy_lawful.specs.source.ComponentChannel.{ComponentChannel}
use Rattle.policy_lawful.specs.source.Required.{Required}
use Rattle.policy_lawful.specs.Views.{channel_view, entry_for, region_view}
use Rattle.policy_views.specs.declared.entries.Choice.{Choice}
use Rattle.policy_views.specs.declared.entries.Wants.{Wants}
use Rattle.policy_views.specs.declared.entries.Wants.TheVariants.{Memory as WantsMemory, Channel as WantsChannel}
use Rattle.policy_lawful.specs.declared.view.IndexedEnd.{IndexedEnd}
use Rattle.policy_lawful.specs.declared.view.View.{View}

-- what an entry chooses
abbrev pub choice_of : MapEntry → Choice
choice_of e = record { physical = e.physical; rights = e.rights }

-- the logical name at an index among those of a kind
abbrev pub wanted_at : Wants → ℕ → Wanted
wanted_at WantsMemory k = WantedMemory k
wanted_at WantsChannel k = WantedChannel k

-- its index, if it is of the kind
abbrev pub index_among : Wants → Wanted → Option ℕ
index_among WantsMemory (WantedMemory k) = Some k
index_among WantsChannel (WantedChannel k) = Some k
index_among _ _ = None

-- an index at which a choice was noted, or not: the first stays
abbrev pub noted : Option Choice → Bool → Choice → Option Choice
noted old false c = old
noted old true c = option_or old (Some c)

-- what is chosen, each by the first entry for its logical name
pub record HasChoices (kind : Wants) (choices : BTreeMap ℕ Choice) (entries : List MapEntry) : Type 0 where
  pub at : (k : ℕ) → get nat_cmp choices k ≡ option_map choice_of (entry_for entries (wanted_at kind k))

-- ---- views and ends by choices, each with the index of its logical name

abbrev pub chosen_region : Resolution → List Required → ℕ × Choice → Option View
chosen_region r memory (index, c) =
    option_and_then (λ x. region_view r c.physical x.virtual_address (unwrap_or c.rights x.rights)) (slice_get memory index)

abbrev pub chosen_channel : Resolution → List ComponentChannel → ℕ × Choice → Option View
chosen_channel r channels (index, c) =
    option_and_then (λ x. channel_view r c.physical x.virtual_address x.role) (slice_get channels index)

abbrev pub chosen_end : List ComponentChannel → ℕ × Choice → Option IndexedEnd
chosen_end channels (index, c) =
    option_map (λ x. record { channel = c.physical; role = x.role; call = x.call; vector = x.vector }) (slice_get channels index)
