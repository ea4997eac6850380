-- Whom events of channels reach, by names and by indexes, and that each call of a writer reaches someone.
use Rattle.std.proofs.Common.{◌≡◌, ℕ, ◌<◌, Bool, true, false, List, length, map, Option, Some, None, refl, sym, ap, ◌∙◌, arith}
use Rattle.std.specs.Prelude.{◌==◌, ◌&&◌, ◌||◌, not, filter, is_some, nat_lt, option_and_then, option_map, slice_get}
use Rattle.std.specs.Option.{option_map_or}
use Rattle.std.specs.List.{flat_map, list_all}
use Rattle.std.specs.Str.{bytes_eq}
use Rattle.std.proofs.lemmas.Bool.{and_parts, ltb-true}
use Rattle.std.proofs.lemmas.List.{length-map}
use Rattle.std.proofs.lemmas.List.Folds.{list_all-append, list_all-map}
use Rattle.std.proofs.Math.Bool.{and-false, and-true}
use Rattle.muen_num.proofs.Lists.{all_true, each_from, filter-map, passes_at, there}
use Rattle.muen_num.proofs.Options.{is_some-option_map}
use Rattle.muen_num.proofs.SearchLaws.{all_pass}
use Rattle.muen_num.specs.declared.mode.EventMode.{EventMode}
use Rattle.muen_num.proofs.Lookups.{same_self}
use Rattle.policy_lawful.specs.MoreRules.{fits_event, is_connected, is_writer, offence_6, readers_of, writers_of}
use Rattle.policy_lawful.specs.Offences.{alone}
use Rattle.policy_lawful.specs.Resolution.{IsResolved, Resolution, name_at, source_of, subject_named, subject_in_range}
use Rattle.policy_lawful.specs.declared.resolved.Subject.{Subject}
use Rattle.policy_lawful.proofs.Indexes.{found_at_index, same_name}
use Rattle.policy_lawful.proofs.SourceElements.{parts_in_range}
use Rattle.policy_lawful.proofs.UniqueNames.{unique, channel_names}
use Rattle.policy_lawful.specs.Events.{ChannelEnd, channel_ends, channel_event, channel_targets, reads_from}
use Rattle.policy_lawful.specs.rights.Role.{Role}
use Rattle.policy_lawful.specs.rights.Role.TheVariants.{Reader, Writer}
use Rattle.policy_lawful.specs.source.Channel.{Channel}
use Rattle.policy_lawful.specs.source.Subject.{Subject as NamedSubject}
use Rattle.policy_lawful.specs.Views.{channel_end_named, channel_ends_of}
use Rattle.policy_lawful.specs.declared.view.IndexedEnd.{IndexedEnd}
use Rattle.policy_lawful.proofs.EndsByIndex.{ends_by_index, ends_in_range}
use Rattle.policy_lawful.proofs.WindowsByIndex.{name_there}
use Rattle.expand_grants.specs.Grants.{raised_named}
use Rattle.expand_grants.specs.Raising.{all_readers, call_entry, entry, first_reached, reader_reached, subject_readers, writer_call}
use Rattle.expand_grants.specs.declared.granted.Way.{Way}
use Rattle.expand_grants.specs.declared.granted.Way.TheVariants.{Call}
use Rattle.expand_grants.specs.declared.reached.Reached.{Reached}
use Rattle.expand_grants.proofs.Elements.{first_there, lengths_same}
use Rattle.policy_lawful.proofs.EachPasses.{all_filter, all_flat}
use Rattle.expand_grants.proofs.FirstByIndex.{filter-flat, filter_same, filter_twice, filtered_some, first_by_index}
use Rattle.expand_grants.proofs.TargetsByIndex.{reaches}

-- what a channel's event reaches, and what is raised by that
raised_by : (r : Resolution) (way : Way) (mode : EventMode) (o : Option Reached) → option_map (λ t. record { mode = mode; target = t }) (option_map (reaches r) o) ≡ option_map (raised_named r) (option_map (entry way mode) o)
raised_by r way mode None = refl
raised_by r way mode (Some x) = refl

raised_in : (r : Resolution) (way : Way) (m : Option EventMode) (o : Option Reached)
    → option_and_then (λ mode. option_map (λ t. record { mode = mode; target = t }) (option_map (reaches r) o)) m ≡ option_map (raised_named r) (option_and_then (λ mode. option_map (entry way mode) o) m)
raised_in r way None o = refl
raised_in r way (Some mode) o = raised_by r way mode o

module _ (r : Resolution) (q : IsResolved r) (k : ℕ) (within : k < length r.channels) where
  same_channel : (j : ℕ) → nat_lt j (length r.channels) ≡ true → bytes_eq (name_at (channel_names r) j) (name_at (channel_names r) k) ≡ (j == k)
  unfolding source_of
  same_channel j ok =
      let many : length (channel_names r) ≡ length r.channels = length-map r.channels (λ x. x.name) in
      let here : j < length r.channels = ltb-true j (length r.channels) ok in
      same_name (channel_names r) j k (unique (source_of r) q.names).channels (omega (arith, many, here)) (omega (arith, many, within))

  -- an end of this role
  reads_same : (index : ℕ) (e : IndexedEnd) (role : Role) → nat_lt e.channel (length r.channels) ≡ true
      → reads_from (channel_end_named r e) role (name_at (channel_names r) k) ≡ option_map_or (λ (x : Reached). x.by == k) (reader_reached index e role) false
  reads_same index e Writer ok = refl
  reads_same index e Reader ok = same_channel e.channel ok

  out_same : (index : ℕ) (name : List ℕ) → name_at (map (λ s. s.name) r.subjects) index ≡ name → (e : IndexedEnd) (role : Role) (x : Reached) → reader_reached index e role ≡ Some x
      → record { subject = name; vector = e.vector } ≡ reaches r x
  out_same index name at e Writer x is = absurd (cc)
  out_same index name at e Reader x is =
      let same : record { by = e.channel; subject = index; vector = e.vector } ≡ x = cc in
      ap (λ n. record { subject = n; vector = e.vector }) (sym at) ∙ ap (reaches r) same

  of_subject : (index : ℕ) (s : Subject) → slice_get r.subjects index ≡ Some s → subject_in_range r s ≡ true
      → map (λ e. record { subject = s.name; vector = e.vector }) (filter (λ e. reads_from e e.role (name_at (channel_names r) k)) (channel_ends (source_of r) (subject_named r s)))
      ≡ map (reaches r) (filter (λ x. x.by == k) (subject_readers r (index, s)))
  of_subject index s at h =
      ap (λ es. map (λ (e : ChannelEnd). record { subject = s.name; vector = e.vector }) (filter (λ e. reads_from e e.role (name_at (channel_names r) k)) es)) (ends_by_index r s q h)
      ∙ filtered_some (λ (e : ChannelEnd). reads_from e e.role (name_at (channel_names r) k)) (channel_end_named r) (λ (x : Reached). x.by == k) (λ e. reader_reached index e e.role)
      (λ e. record { subject = s.name; vector = e.vector }) (reaches r) (λ e. nat_lt e.channel (length r.channels))
      (λ e ok. reads_same index e e.role ok)
      (λ e x is. out_same index s.name (name_there (λ s. s.name) r.subjects index s at) e e.role x is)
      (channel_ends_of r s) (ends_in_range r s h)

  -- the first reader of the channel at an index
  pub first_reader : slice_get (channel_targets (source_of r) (name_at (channel_names r) k)) 0 ≡ option_map (reaches r) (first_reached (all_readers r) k)
  unfolding source_of
  first_reader =
      first_by_index (λ t. map (λ e. record { subject = t.name; vector = e.vector }) (filter (λ e. reads_from e e.role (name_at (channel_names r) k)) (channel_ends (source_of r) t)))
      (subject_named r) (λ (x : Reached). x.by == k) (subject_readers r) (reaches r) (subject_in_range r) r.subjects
      (λ index s at h. of_subject index s at h) (parts_in_range r q.in_range).subjects

  -- the event of the channel at an index, by its name
  pub channel_by_index : (n : ℕ) → channel_event (source_of r) (name_at (channel_names r) k) ≡ option_map (raised_named r) (call_entry r.channels (all_readers r) k n)
  unfolding source_of
  channel_by_index n =
      let at = there r.channels k within in
      ap (option_and_then (λ (c : Channel). option_and_then (λ m. option_map (λ t. record { mode = m; target = t }) (slice_get (channel_targets (source_of r) (name_at (channel_names r) k)) 0)) c.has_event))
      (found_at_index (λ x. x.name) r.channels k (unique (source_of r) q.names).channels within ∙ at.1)
      ∙ ap (λ o. option_and_then (λ m. option_map (λ t. record { mode = m; target = t }) o) at.0.has_event) first_reader
      ∙ raised_in r (Call n) at.0.has_event (first_reached (all_readers r) k)
      ∙ ap (λ o. option_map (raised_named r) (option_and_then (λ (c : Channel). option_and_then (λ mode. option_map (entry (Call n) mode) (first_reached (all_readers r) k)) c.has_event) o)) (sym at.1)

  -- ---- rule 6

  -- readers are those ends that are reached
  reads_alike : (name : List ℕ) (e : ChannelEnd) (role : Role) → (bytes_eq e.channel name && not (is_writer role)) ≡ reads_from e role name
  reads_alike name e Writer = and-false (bytes_eq e.channel name)
  reads_alike name e Reader = and-true (bytes_eq e.channel name)

  -- as many readers as targets
  many_readers : (name : List ℕ) → length (readers_of (source_of r) name) ≡ length (channel_targets (source_of r) name)
  many_readers name =
      let p = source_of r in
      let is_reader : List ℕ × ChannelEnd → Bool = λ e. not (is_writer e.1.role) in
      ap length (filter-flat is_reader (λ s. map (λ e. (s.name, e)) (filter (λ e. bytes_eq e.channel name) (channel_ends p s))) p.subjects)
      ∙ lengths_same (λ (s : NamedSubject). filter is_reader (map (λ e. (s.name, e)) (filter (λ e. bytes_eq e.channel name) (channel_ends p s))))
      (λ s. map (λ e. record { subject = s.name; vector = e.vector }) (filter (λ e. reads_from e e.role name) (channel_ends p s)))
      (λ s.
      let es = channel_ends p s in
      ap length (filter-map is_reader (λ e. (s.name, e)) (filter (λ e. bytes_eq e.channel name) es))
      ∙ length-map (filter (λ e. not (is_writer e.role)) (filter (λ e. bytes_eq e.channel name) es)) (λ e. (s.name, e))
      ∙ ap length (filter_twice (λ (e : ChannelEnd). bytes_eq e.channel name) (λ e. not (is_writer e.role)) es ∙ filter_same (λ (e : ChannelEnd). bytes_eq e.channel name && not (is_writer e.role)) (λ e. reads_from e e.role name) (λ e. reads_alike name e e.role) es)
      ∙ sym (length-map (filter (λ (e : ChannelEnd). reads_from e e.role name) es) (λ e. record { subject = s.name; vector = e.vector })))
      p.subjects

  -- what is told of each writer of the channel is told of an end that writes it
  pub writer_tells : (t : List ℕ × ChannelEnd → Bool) → list_all t (writers_of (source_of r) (name_at (channel_names r) k)) ≡ true
      → (j i : ℕ) (s : Subject) (e : IndexedEnd) → slice_get r.subjects j ≡ Some s → subject_in_range r s ≡ true → slice_get (channel_ends_of r s) i ≡ Some e → e.channel ≡ k
      → (not (is_writer e.role) || t (s.name, channel_end_named r e)) ≡ true
  unfolding source_of
  writer_tells t all j i s e at h in_it here =
      let p = source_of r in
      let name = name_at (channel_names r) k in
      let w : List ℕ × ChannelEnd → Bool = λ x. is_writer x.1.role in
      let of_one : NamedSubject → List (List ℕ × ChannelEnd) = λ s. map (λ e. (s.name, e)) (filter (λ e. bytes_eq e.channel name) (channel_ends p s)) in
      let t' : List ℕ × ChannelEnd → Bool = λ x. not (w x) || t x in
      let each : list_all (λ s. list_all t' (of_one s)) p.subjects ≡ true = sym (all_filter t w (flat_map of_one p.subjects) ∙ all_flat t' of_one p.subjects) ∙ all in
      let one : list_all t' (of_one (subject_named r s)) ≡ true =
      passes_at (λ s. list_all t' (of_one (subject_named r s))) r.subjects j s (sym (list_all-map (λ s. list_all t' (of_one s)) (subject_named r) r.subjects) ∙ each) at in
      let by_channel_end : list_all (λ (x : ChannelEnd). not (bytes_eq x.channel name) || t' (s.name, x)) (channel_ends p (subject_named r s)) ≡ true =
      sym (list_all-map t' (λ x. (s.name, x)) (filter (λ e. bytes_eq e.channel name) (channel_ends p (subject_named r s)))
      ∙ all_filter (λ x. t' (s.name, x)) (λ e. bytes_eq e.channel name) (channel_ends p (subject_named r s))) ∙ one in
      let by_index : list_all (λ x. not (bytes_eq (channel_end_named r x).channel name) || t' (s.name, channel_end_named r x)) (channel_ends_of r s) ≡ true =
      sym (ap (list_all (λ (x : ChannelEnd). not (bytes_eq x.channel name) || t' (s.name, x))) (ends_by_index r s q h)
      ∙ list_all-map (λ (x : ChannelEnd). not (bytes_eq x.channel name) || t' (s.name, x)) (channel_end_named r) (channel_ends_of r s)) ∙ by_channel_end in
      let mine = passes_at (λ x. not (bytes_eq (channel_end_named r x).channel name) || t' (s.name, channel_end_named r x)) (channel_ends_of r s) i e by_index in_it in
      let same : bytes_eq (name_at (channel_names r) e.channel) name ≡ true = ap (λ n. bytes_eq (name_at (channel_names r) n) name) here ∙ same_self name in
      ap (λ b. not b || t' (s.name, channel_end_named r e)) (sym same) ∙ mine

  -- a writer's call raises an event
  raises : (e : IndexedEnd) (c : Channel) (m : Option EventMode) (role : Role) (call : Option ℕ)
      → (not (is_writer role) || option_map_or (λ _. true) m (not (is_some call))) ≡ true → option_map_or (λ _. is_some (first_reached (all_readers r) k)) m true ≡ true
      → option_map_or (λ n. is_some (option_and_then (λ mode. option_map (entry (Call n) mode) (first_reached (all_readers r) k)) m)) (writer_call (record { channel = e.channel; role = role; call = call; vector = e.vector }) role) true ≡ true
  raises e c m Reader call h there = refl
  raises e c m Writer None h there = refl
  raises e c None Writer (Some n) h there = absurd (cc)
  raises e c (Some mode) Writer (Some n) h there = is_some-option_map (entry (Call n) mode) (first_reached (all_readers r) k) ∙ there

  -- what the rule asks of the ends, by the channel's event
  calls_by : (writers readers : List (List ℕ × ChannelEnd)) (m : Option EventMode) → fits_event writers readers m ≡ true → list_all (λ x. option_map_or (λ _. true) m (not (is_some x.1.call))) writers ≡ true
  calls_by writers readers None h =
      let parts = and_parts (list_all (λ e. not (is_some e.1.call) && not (is_some e.1.vector)) writers) (list_all (λ e. not (is_some e.1.call) && not (is_some e.1.vector)) readers)
      (sym (list_all-append (λ e. not (is_some e.1.call) && not (is_some e.1.vector)) writers readers) ∙ h) in
      calls_alone writers parts.0
    where
      calls_alone : (xs : List (List ℕ × ChannelEnd)) → list_all (λ e. not (is_some e.1.call) && not (is_some e.1.vector)) xs ≡ true → list_all (λ x. not (is_some x.1.call)) xs ≡ true
      calls_alone xs h = each_from (λ e. not (is_some e.1.call) && not (is_some e.1.vector)) (λ x. not (is_some x.1.call)) (λ e a. (and_parts (not (is_some e.1.call)) (not (is_some e.1.vector)) a).0) xs h
  calls_by writers readers (Some mode) h = all_true writers

  one_by : (writers readers : List (List ℕ × ChannelEnd)) (m : Option EventMode) → fits_event writers readers m ≡ true → option_map_or (λ _. length readers == 1) m true ≡ true
  one_by writers readers None h = refl
  one_by writers readers (Some mode) h = (and_parts _ _ (and_parts _ _ h).0).0

  reader_there : (m : Option EventMode) → option_map_or (λ _. length (readers_of (source_of r) (name_at (channel_names r) k)) == 1) m true ≡ true → option_map_or (λ _. is_some (first_reached (all_readers r) k)) m true ≡ true
  reader_there None h = refl
  reader_there (Some mode) h =
      sym (is_some-option_map (reaches r) (first_reached (all_readers r) k)) ∙ ap is_some (sym first_reader)
      ∙ first_there (readers_of (source_of r) (name_at (channel_names r) k)) (channel_targets (source_of r) (name_at (channel_names r) k)) (many_readers (name_at (channel_names r) k)) h

  pub call_raises : offence_6 (source_of r) ≡ None → (j i : ℕ) (s : Subject) (e : IndexedEnd) → slice_get r.subjects j ≡ Some s → subject_in_range r s ≡ true → slice_get (channel_ends_of r s) i ≡ Some e → e.channel ≡ k
      → option_map_or (λ n. is_some (call_entry r.channels (all_readers r) k n)) (writer_call e e.role) true ≡ true
  unfolding source_of offence_6
  call_raises lawful j i s e at h in_it here =
      let p = source_of r in
      let name = name_at (channel_names r) k in
      let c = there r.channels k within in
      let named : name ≡ c.0.name = name_there (λ x. x.name) r.channels k c.0 c.1 in
      let each = all_pass (is_connected p) (λ c. alone c.name) r.channels lawful in
      let mine = passes_at (is_connected p) r.channels k c.0 each c.1 in
      let fits : fits_event (writers_of p name) (readers_of p name) c.0.has_event ≡ true = ap (λ n. fits_event (writers_of p n) (readers_of p n) c.0.has_event) named ∙ (and_parts _ _ mine).1 in
      let told = writer_tells (λ x. option_map_or (λ _. true) c.0.has_event (not (is_some x.1.call))) (calls_by (writers_of p name) (readers_of p name) c.0.has_event fits) j i s e at h in_it here in
      let met = reader_there c.0.has_event (one_by (writers_of p name) (readers_of p name) c.0.has_event fits) in
      ap (λ o. option_map_or (λ n. is_some (option_and_then (λ (c : Channel). option_and_then (λ mode. option_map (entry (Call n) mode) (first_reached (all_readers r) k)) c.has_event) o)) (writer_call e e.role) true) c.1
      ∙ raises e c.0 c.0.has_event e.role e.call told met
