-- The ends of channels that the source policy gives a subject are those by indexes.
use Rattle.std.proofs.Common.{◌≡◌, ℕ, Bool, true, List, [], ◌++◌, length, map, Option, Some, None, refl, sym, ap, ◌∙◌, arith}
use Rattle.std.specs.Prelude.{nat_lt, option_map, slice_get}
use Rattle.std.specs.Option.{option_map_or}
use Rattle.std.specs.List.{enumerate_from, filter_map, list_all}
use Rattle.std.proofs.lemmas.Bool.{and_from, and_parts}
use Rattle.std.proofs.lemmas.List.{map-append}
use Rattle.std.proofs.lemmas.List.Folds.{list_all-append, list_all-map}
use Rattle.muen_num.proofs.Lists.{map-map}
use Rattle.policy_lawful.specs.Resolution.{IsResolved, Resolution, channel_named, component_in_range, component_named, entry_in_range, entry_named, name_at, source_of, subject_in_range, subject_named}
use Rattle.policy_lawful.specs.declared.resolved.ComponentUse.{ComponentUse}
use Rattle.policy_lawful.specs.declared.resolved.MapEntry.{MapEntry}
use Rattle.policy_lawful.specs.declared.resolved.Subject.{Subject}
use Rattle.policy_lawful.specs.declared.resolved.Wanted.{Wanted}
use Rattle.policy_lawful.specs.declared.resolved.Wanted.TheVariants.{Memory as WantedMemory, Channel as WantedChannel}
use Rattle.policy_lawful.specs.Events.{ChannelEnd, channel_ends, component_ends}
use Rattle.policy_lawful.specs.Thing.{component_by}
use Rattle.policy_lawful.specs.Windows.{entry_of}
use Rattle.policy_types.specs.declared.source.ChannelUse.{ChannelUse as NamedChannel}
use Rattle.policy_types.specs.declared.source.Component.{Component}
use Rattle.policy_types.specs.declared.source.ComponentChannel.{ComponentChannel}
use Rattle.policy_types.specs.declared.source.MapEntry.{MapEntry as NamedEntry}
use Rattle.policy_types.specs.declared.source.Subject.{Subject as NamedSubject}
use Rattle.policy_lawful.specs.Views.{channel_end_named, channel_ends_of, component_end, same_wanted, use_ends}
use Rattle.policy_lawful.specs.declared.view.IndexedEnd.{IndexedEnd}
use Rattle.policy_lawful.proofs.ChosenEntries.{entry_found}
use Rattle.policy_lawful.proofs.Mapped.{all_filtered, filter_numbered, found_same}
use Rattle.policy_lawful.proofs.WindowsByIndex.{component_is, component_there, entries_in_range, name_there, subject_parts, unique_logical, within_names}

-- ---- of a component

module _ (r : Resolution) (q : IsResolved r) (t : NamedSubject) (used : ComponentUse) (c : Component) (uses : t.component ≡ Some (component_named r used)) (is : slice_get r.components used.used ≡ Some c) (in_range : component_in_range r used ≡ true) where
  -- a channel of the component, by the entry for it
  end_of_entry : (x : ComponentChannel) (k : ℕ) (w : Wanted) (e : MapEntry) → same_wanted w (WantedChannel k) ≡ true → (entry_named r used.used w e).physical ≡ name_at (map (λ x. x.name) r.channels) e.physical
  end_of_entry x k (WantedMemory j) e same = absurd (cc)
  end_of_entry x k (WantedChannel j) e same = refl

  end_by_index : (k : ℕ) (x : ComponentChannel) → slice_get c.channels k ≡ Some x
      → option_map (λ e. record { channel = e.physical; role = x.role; call = x.call; vector = x.vector }) (entry_of t.component x.logical) ≡ option_map (channel_end_named r) (component_end used.map (k, x))
  end_by_index k x at =
      let by : NamedEntry → ChannelEnd = λ e. record { channel = e.physical; role = x.role; call = x.call; vector = x.vector } in
      let to : MapEntry → IndexedEnd = λ e. record { channel = e.physical; role = x.role; call = x.call; vector = x.vector } in
      ap (λ o. option_map by (entry_of o x.logical)) uses
      ∙ entry_found r used.used c is (unique_logical r q t used c uses is in_range) (WantedChannel k) x.logical (option_map by) (λ o. option_map (channel_end_named r) (option_map to o))
      (within_names (λ x. x.logical) c.channels k x at) (sym (name_there (λ x. x.logical) c.channels k x at)) refl
      (λ e h same. ap (λ name. Some (record { channel = name; role = x.role; call = x.call; vector = x.vector })) (end_of_entry x k e.logical e same))
      used.map (entries_in_range r q t used c uses is in_range)

  component_ends_by_index : component_ends t (component_by (source_of r) t.component) ≡ map (channel_end_named r) (filter_map (component_end used.map) (enumerate_from 0 c.channels))
  component_ends_by_index =
      ap (component_ends t) (component_is r q t used c uses is in_range)
      ∙ filter_numbered (λ x. option_map (λ e. record { channel = e.physical; role = x.role; call = x.call; vector = x.vector }) (entry_of t.component x.logical)) (component_end used.map) (channel_end_named r) 0 c.channels
      (λ k x at. end_by_index k x at ∙ ap (λ n. option_map (channel_end_named r) (component_end used.map (n, x))) (omega arith))

used_ends : (r : Resolution) (q : IsResolved r) (t : NamedSubject) (o : Option ComponentUse) → t.component ≡ option_map (component_named r) o → option_map_or (component_in_range r) o true ≡ true
    → component_ends t (component_by (source_of r) t.component) ≡ map (channel_end_named r) (use_ends r o)
used_ends r q t None is h = ap (λ o. component_ends t (component_by (source_of r) o)) is
used_ends r q t (Some used) is h =
    let c = component_there r used h in
    component_ends_by_index r q t used c.0 is c.1 h
    ∙ ap (λ o. map (channel_end_named r) (option_map_or (λ c. filter_map (component_end used.map) (enumerate_from 0 c.channels)) o [])) (sym c.1)

-- ---- of a subject

-- its ends by names are those by indexes
pub ends_by_index : (r : Resolution) (s : Subject) → IsResolved r → subject_in_range r s ≡ true → channel_ends (source_of r) (subject_named r s) ≡ map (channel_end_named r) (channel_ends_of r s)
unfolding channel_ends_of
ends_by_index r s q h =
    let named : NamedChannel → ChannelEnd = λ c. record { channel = c.channel; role = c.role; call = c.call; vector = c.vector } in
    let own = map (λ c. record { channel = c.channel; role = c.role; call = c.call; vector = c.vector }) s.channels in
    let front : map named (map (channel_named r) s.channels) ≡ map (channel_end_named r) own = map-map named (channel_named r) s.channels ∙ sym (map-map (channel_end_named r) _ s.channels) in
    let back = used_ends r q (subject_named r s) s.component refl (subject_parts r s h).component in
    (λ i. front i ++ back i) ∙ sym (map-append (channel_end_named r) own (use_ends r s.component))

-- ---- indexes in range

-- the end's channel is there
abbrev within : Resolution → IndexedEnd → Bool
within r e = nat_lt e.channel (length r.channels)

entry_within : (r : Resolution) (used k : ℕ) (w : Wanted) (physical : ℕ) → entry_in_range r used w physical ≡ true → same_wanted w (WantedChannel k) ≡ true → true ≡ nat_lt physical (length r.channels)
entry_within r used k (WantedMemory j) physical h same = absurd (cc)
entry_within r used k (WantedChannel j) physical h same = sym (and_parts _ _ h).1

end_within : (r : Resolution) (used : ℕ) (entries : List MapEntry) → list_all (λ e. entry_in_range r used e.logical e.physical) entries ≡ true → (x : ℕ × ComponentChannel)
    → option_map_or (within r) (component_end entries x) true ≡ true
end_within r used entries in_range (k, x) =
    let to : MapEntry → IndexedEnd = λ e. record { channel = e.physical; role = x.role; call = x.call; vector = x.vector } in
    sym (found_same (λ e. same_wanted e.logical (WantedChannel k)) (λ e. e) (λ e. same_wanted e.logical (WantedChannel k)) (λ e. entry_in_range r used e.logical e.physical)
    (λ _. true) (λ o. option_map_or (within r) (option_map to o) true) refl (λ e _. refl) (λ e h same. entry_within r used k e.logical e.physical h same) entries in_range)

use_within : (r : Resolution) (o : Option ComponentUse) → option_map_or (component_in_range r) o true ≡ true → list_all (within r) (use_ends r o) ≡ true
use_within r None h = refl
use_within r (Some used) h =
    elim (slice_get r.components used.used) as (λ o. list_all (within r) (option_map_or (λ (c : Component). filter_map (component_end used.map) (enumerate_from 0 c.channels)) o []) ≡ true) [
      | None ↦ refl
      | Some c ↦ all_filtered (within r) (component_end used.map) (end_within r used.used used.map (and_parts _ _ h).1) (enumerate_from 0 c.channels)
    ]

-- each end is of a channel that is there
pub ends_in_range : (r : Resolution) (s : Subject) → subject_in_range r s ≡ true → list_all (λ e. nat_lt e.channel (length r.channels)) (channel_ends_of r s) ≡ true
unfolding channel_ends_of
ends_in_range r s h =
    let is = subject_parts r s h in
    let own = map (λ c. record { channel = c.channel; role = c.role; call = c.call; vector = c.vector }) s.channels in
    list_all-append (within r) own (use_ends r s.component)
    ∙ and_from (list_all (within r) own) (list_all (within r) (use_ends r s.component)) (list_all-map (within r) _ s.channels ∙ is.channels) (use_within r s.component is.component)
