-- The event that a subject raises in a way, by names and by its entries.
use Rattle.std.proofs.Common.{◌≡◌, ℕ, ◌<◌, Bool, true, length, map, Option, Some, None, refl, sym, ap, ◌∙◌}
use Rattle.std.specs.Prelude.{◌&&◌, is_some, nat_lt, option_and_then, option_map, slice_get}
use Rattle.std.specs.Option.{option_map_or, option_or}
use Rattle.std.specs.List.{filter_map, find, list_all}
use Rattle.std.proofs.lemmas.Bool.{and_from, and_parts, ltb-true}
use Rattle.std.proofs.lemmas.List.Folds.{find-append}
use Rattle.muen_num.proofs.Lists.{passes_at, there}
use Rattle.muen_num.proofs.Numbers.{equal_turned}
use Rattle.muen_num.proofs.Options.{is_some-option_map, map_either}
use Rattle.policy_lawful.specs.MoreRules.{offence_12, offence_6}
use Rattle.policy_lawful.specs.Resolution.{IsResolved, Resolution, name_at, source_of, subject_named, subject_in_range}
use Rattle.policy_lawful.specs.declared.resolved.EventSource.{EventSource}
use Rattle.policy_lawful.specs.declared.resolved.Subject.{Subject}
use Rattle.policy_lawful.specs.Events.{ChannelEnd, channel_event, event_of, is_call, named_event, same_way, writes_by}
use Rattle.policy_lawful.specs.rights.Role.{Role}
use Rattle.policy_lawful.specs.rights.Role.TheVariants.{Reader, Writer}
use Rattle.policy_lawful.specs.source.Event.{Event}
use Rattle.policy_lawful.specs.source.EventSource.{EventSource as NamedSource}
use Rattle.policy_lawful.specs.source.SourceWay.{SourceWay}
use Rattle.policy_lawful.specs.source.SourceWay.TheVariants.{Call as SourceCall, Trap as SourceTrap}
use Rattle.policy_lawful.specs.Views.{channel_end_named, channel_ends_of}
use Rattle.policy_lawful.specs.declared.view.IndexedEnd.{IndexedEnd}
use Rattle.policy_lawful.proofs.EndsByIndex.{ends_by_index, ends_in_range}
use Rattle.expand_grants.specs.Grants.{entry_raised, is_way, raised_named}
use Rattle.expand_grants.specs.Raising.{all_readers, all_targets, call_entry, channel_end_entry, event_entries_of, entry, first_reached, source_entry, granted_way_of, writer_call}
use Rattle.expand_grants.specs.declared.granted.EventEntry.{EventEntry}
use Rattle.expand_grants.specs.declared.granted.Way.{Way}
use Rattle.expand_grants.specs.declared.granted.Way.TheVariants.{Call}
use Rattle.expand_grants.specs.declared.reached.Reached.{Reached}
use Rattle.expand_grants.proofs.Elements.{all_at, found_filtered}
use Rattle.expand_grants.proofs.ReadersByIndex.{call_raises, channel_by_index}
use Rattle.policy_lawful.proofs.UniqueNames.{channel_names, event_names}
use Rattle.expand_grants.proofs.TargetsByIndex.{event_by_index, some_target}

-- ---- ways

-- an entry has the way of its source
pub way_same : (way of : SourceWay) → is_way way (granted_way_of of) ≡ same_way of way
way_same (SourceCall m) (SourceCall n) = equal_turned m n
way_same (SourceCall m) (SourceTrap n) = refl
way_same (SourceTrap m) (SourceCall n) = refl
way_same (SourceTrap m) (SourceTrap n) = equal_turned m n

-- an entry has the call of its end
call_same : (way : SourceWay) (n : ℕ) → is_way way (Call n) ≡ is_call (Some n) way
call_same (SourceCall m) n = equal_turned m n
call_same (SourceTrap m) n = refl

-- ---- sources

module _ (way : SourceWay) where
  abbrev of_way : EventEntry → Bool
  of_way e = is_way way e.way

  pub entry_way : (w : Way) (b : Bool) → is_way way w ≡ b → (e : Option Event) (x : Option Reached) → option_map_or of_way (option_and_then (λ e. option_map (entry w e.mode) x) e) b ≡ b
  entry_way w b same None x = refl
  entry_way w b same (Some e) None = refl
  entry_way w b same (Some e) (Some x) = same

  entry_some : (w : Way) (e : Event) (o : Option Event) (x : Option Reached) → o ≡ Some e → is_some x ≡ true → is_some (option_and_then (λ e. option_map (entry w e.mode) x) o) ≡ true
  entry_some w e o x is some = ap (λ o. is_some (option_and_then (λ (e : Event). option_map (entry w e.mode) x) o)) is ∙ is_some-option_map (entry w e.mode) x ∙ some

  module _ (r : Resolution) (q : IsResolved r) (s : Subject) (in_range : subject_in_range r s ≡ true) where
    abbrev source_named : EventSource → NamedSource
    source_named e = record { event = name_at (event_names r) e.event; way = e.way }

    source_found : offence_12 (source_of r) ≡ None
        → option_and_then (λ e. named_event (source_of r) e.event) (find (λ e. same_way e.way way) (map source_named s.sources))
        ≡ option_map (raised_named r) (find of_way (filter_map (source_entry r.events (all_targets r.subjects)) s.sources))
    source_found lawful =
        found_filtered (λ (e : NamedSource). same_way e.way way) source_named (source_entry r.events (all_targets r.subjects)) of_way (λ e. named_event (source_of r) e.event) (raised_named r)
        (λ e. nat_lt e.event (length r.events))
        (λ e ok. entry_way (granted_way_of e.way) (same_way e.way way) (way_same way e.way) (slice_get r.events e.event) (first_reached (all_targets r.subjects) e.event))
        (λ e ok hit.
        let l = ltb-true e.event (length r.events) ok in
        let at = there r.events e.event l in
        entry_some (granted_way_of e.way) at.0 (slice_get r.events e.event) (first_reached (all_targets r.subjects) e.event) at.1 (some_target r q e.event l lawful))
        (λ e ok hit. event_by_index r q e.event (ltb-true e.event (length r.events) ok) (granted_way_of e.way))
        s.sources (and_parts _ _ (and_parts _ _ (and_parts _ _ in_range).0).0).1

    -- ---- ends of channels

    abbrev raises : IndexedEnd → Bool
    raises e = option_map_or (λ n. is_some (call_entry r.channels (all_readers r) e.channel n)) (writer_call e e.role) true

    called_way : (e : IndexedEnd) (n : ℕ) (b : Bool) → is_way way (Call n) ≡ b → (o : Option EventEntry) → ((x : EventEntry) → o ≡ Some x → x.way ≡ Call n) → option_map_or of_way o b ≡ b
    called_way e n b same None is = refl
    called_way e n b same (Some x) is = ap (is_way way) (is x refl) ∙ same

    entry_called : (channel n : ℕ) (x : EventEntry) → call_entry r.channels (all_readers r) channel n ≡ Some x → x.way ≡ Call n
    entry_called channel n x is =
        elim (slice_get r.channels channel) as (λ o. option_and_then (λ c. option_and_then (λ mode. option_map (entry (Call n) mode) (first_reached (all_readers r) channel)) c.has_event) o ≡ Some x → x.way ≡ Call n) [
          | None ↦ λ h. absurd (cc)
          | Some c ↦ λ h. by_mode c.has_event h
        ] is
      where
        by_reader : (m : _) (o : Option Reached) → option_map (entry (Call n) m) o ≡ Some x → x.way ≡ Call n
        by_reader m None h = absurd (cc)
        by_reader m (Some y) h = let same : entry (Call n) m y ≡ x = cc in ap (λ e. e.way) (sym same)

        by_mode : (m : Option _) → option_and_then (λ mode. option_map (entry (Call n) mode) (first_reached (all_readers r) channel)) m ≡ Some x → x.way ≡ Call n
        by_mode None h = absurd (cc)
        by_mode (Some m) h = by_reader m (first_reached (all_readers r) channel) h

    pub channel_end_way : (e : IndexedEnd) (role : Role) (call : Option ℕ) → (b : Bool) → b ≡ writes_by (record { channel = name_at (channel_names r) e.channel; role = role; call = call; vector = e.vector }) role way
        → option_map_or of_way (option_and_then (call_entry r.channels (all_readers r) e.channel) (writer_call (record { channel = e.channel; role = role; call = call; vector = e.vector }) role)) b ≡ b
    channel_end_way e Reader call b is = refl
    channel_end_way e Writer None b is = refl
    channel_end_way e Writer (Some n) b is = called_way e n b (call_same way n ∙ sym is) (call_entry r.channels (all_readers r) e.channel n) (λ x h. entry_called e.channel n x h)

    channel_end_some : (e : IndexedEnd) (role : Role) (call : Option ℕ)
        → option_map_or (λ n. is_some (call_entry r.channels (all_readers r) e.channel n)) (writer_call (record { channel = e.channel; role = role; call = call; vector = e.vector }) role) true ≡ true
        → writes_by (record { channel = name_at (channel_names r) e.channel; role = role; call = call; vector = e.vector }) role way ≡ true
        → is_some (option_and_then (call_entry r.channels (all_readers r) e.channel) (writer_call (record { channel = e.channel; role = role; call = call; vector = e.vector }) role)) ≡ true
    channel_end_some e Reader call h hit = absurd (cc)
    channel_end_some e Writer None h hit = absurd (no way hit)
      where
        no : (way : SourceWay) → is_call None way ≡ true → ⊥
        no (SourceCall m) h = cc
        no (SourceTrap m) h = cc
    channel_end_some e Writer (Some n) h hit = h

    channel_end_is : (e : IndexedEnd) (role : Role) (call : Option ℕ) → e.channel < length r.channels
        → writes_by (record { channel = name_at (channel_names r) e.channel; role = role; call = call; vector = e.vector }) role way ≡ true
        → channel_event (source_of r) (name_at (channel_names r) e.channel)
        ≡ option_map (raised_named r) (option_and_then (call_entry r.channels (all_readers r) e.channel) (writer_call (record { channel = e.channel; role = role; call = call; vector = e.vector }) role))
    channel_end_is e Reader call l hit = absurd (cc)
    channel_end_is e Writer None l hit = absurd (no way hit)
      where
        no : (way : SourceWay) → is_call None way ≡ true → ⊥
        no (SourceCall m) h = cc
        no (SourceTrap m) h = cc
    channel_end_is e Writer (Some n) l hit = channel_by_index r q e.channel l n

    abbrev is_met : IndexedEnd → Bool
    is_met e = nat_lt e.channel (length r.channels) && raises e

    channel_end_found : list_all is_met (channel_ends_of r s) ≡ true
        → option_and_then (λ e. channel_event (source_of r) e.channel) (find (λ e. writes_by e e.role way) (map (channel_end_named r) (channel_ends_of r s)))
        ≡ option_map (raised_named r) (find of_way (filter_map (channel_end_entry r.channels (all_readers r)) (channel_ends_of r s)))
    channel_end_found met =
        found_filtered (λ (e : ChannelEnd). writes_by e e.role way) (channel_end_named r) (channel_end_entry r.channels (all_readers r)) of_way (λ e. channel_event (source_of r) e.channel) (raised_named r)
        is_met
        (λ e ok. channel_end_way e e.role e.call (writes_by (channel_end_named r e) e.role way) refl)
        (λ e ok hit. channel_end_some e e.role e.call (and_parts (nat_lt e.channel (length r.channels)) (raises e) ok).1 hit)
        (λ e ok hit. channel_end_is e e.role e.call (ltb-true e.channel (length r.channels) (and_parts (nat_lt e.channel (length r.channels)) (raises e) ok).0) hit)
        (channel_ends_of r s) met

-- ---- of a subject

-- each end is at a channel, and a writer's call raises an event
channel_ends_met : (r : Resolution) (k : ℕ) (s : Subject) → IsResolved r → offence_6 (source_of r) ≡ None → slice_get r.subjects k ≡ Some s → subject_in_range r s ≡ true
    → list_all (λ e. nat_lt e.channel (length r.channels) && option_map_or (λ n. is_some (call_entry r.channels (all_readers r) e.channel n)) (writer_call e e.role) true) (channel_ends_of r s) ≡ true
channel_ends_met r k s q lawful at in_range =
    all_at (λ (e : IndexedEnd). nat_lt e.channel (length r.channels) && option_map_or (λ n. is_some (call_entry r.channels (all_readers r) e.channel n)) (writer_call e e.role) true) (channel_ends_of r s)
    (λ i e in_it.
    let ok = passes_at (λ e. nat_lt e.channel (length r.channels)) (channel_ends_of r s) i e (ends_in_range r s in_range) in_it in
    and_from (nat_lt e.channel (length r.channels)) (option_map_or (λ n. is_some (call_entry r.channels (all_readers r) e.channel n)) (writer_call e e.role) true) ok
    (call_raises r q e.channel (ltb-true e.channel (length r.channels) ok) lawful k i s e at in_range in_it refl))

-- the entries of a subject tell for each way the event that it raises
pub events_by_index : (r : Resolution) (k : ℕ) (s : Subject) → IsResolved r → offence_6 (source_of r) ≡ None → offence_12 (source_of r) ≡ None → slice_get r.subjects k ≡ Some s → subject_in_range r s ≡ true
    → (way : SourceWay) → entry_raised r (event_entries_of r s) way ≡ event_of (source_of r) (subject_named r s) way
unfolding event_of
events_by_index r k s q lawful_6 lawful_12 at in_range way =
    let by_source = filter_map (source_entry r.events (all_targets r.subjects)) s.sources in
    let by_channel_end = filter_map (channel_end_entry r.channels (all_readers r)) (channel_ends_of r s) in
    ap (option_map (raised_named r)) (find-append (λ e. is_way way e.way) by_source by_channel_end)
    ∙ map_either (raised_named r) (find (λ e. is_way way e.way) by_source) (find (λ e. is_way way e.way) by_channel_end)
    ∙ ap (λ o. option_or o (option_map (raised_named r) (find (λ e. is_way way e.way) by_channel_end))) (sym (source_found way r q s in_range lawful_12))
    ∙ ap (option_or (option_and_then (λ e. named_event (source_of r) e.event) (find (λ e. same_way e.way way) (subject_named r s).sources)))
    (sym (channel_end_found way r q s in_range (channel_ends_met r k s q lawful_6 at in_range))
    ∙ ap (λ es. option_and_then (λ (e : ChannelEnd). channel_event (source_of r) e.channel) (find (λ e. writes_by e e.role way) es)) (sym (ends_by_index r s q in_range)))
