-- Flows by channels, by names and by indexes.
use Rattle.std.proofs.Common.{◌≡◌, ℕ, ◌<◌, true, false, length, refl, sym, ap, ◌∙◌, arith}
use Rattle.std.specs.Prelude.{◌==◌, ◌&&◌, nat_lt}
use Rattle.std.specs.Option.{option_map_or}
use Rattle.std.specs.List.{filter_map, list_any}
use Rattle.std.specs.Str.{bytes_eq}
use Rattle.std.proofs.lemmas.Bool.{ltb-true}
use Rattle.std.proofs.lemmas.List.{length-map}
use Rattle.muen_num.proofs.Lists.{list_any-map}
use Rattle.policy_lawful.specs.Resolution.{IsResolved, Resolution, name_at, source_of, subject_named, subject_in_range}
use Rattle.policy_lawful.specs.declared.resolved.Subject.{Subject}
use Rattle.policy_lawful.proofs.Indexes.{same_name}
use Rattle.policy_lawful.proofs.UniqueNames.{channel_names, channels_unique}
use Rattle.policy_lawful.specs.Events.{ChannelEnd, channel_ends, reads_from}
use Rattle.policy_lawful.specs.rights.Role.{Role}
use Rattle.policy_lawful.specs.rights.Role.TheVariants.{Writer, Reader}
use Rattle.policy_lawful.specs.Views.{channel_end_named, channel_ends_of}
use Rattle.policy_lawful.specs.declared.view.IndexedEnd.{IndexedEnd}
use Rattle.policy_lawful.proofs.EndsByIndex.{ends_by_index, ends_in_range}
use Rattle.policy_flows.specs.Flows.{by_channel}
use Rattle.policy_lawful.specs.MoreRules.{is_writer}
use Rattle.muen_num.proofs.Members.{any_agree, passes_in}
use Rattle.flow_report.specs.ByIndex.{channel_read, channel_written}
use Rattle.muen_num.specs.Numbers.{is_among, share}
use Rattle.flow_report.proofs.IndexesOfSubjects.{any_filter_map}

module _ (r : Resolution) (q : IsResolved r) where
  same_channel : (j k : ℕ) → nat_lt j (length r.channels) ≡ true → nat_lt k (length r.channels) ≡ true → bytes_eq (name_at (channel_names r) j) (name_at (channel_names r) k) ≡ (j == k)
  same_channel j k a b =
      let many : length (channel_names r) ≡ length r.channels = length-map r.channels (λ c. c.name) in
      let left : j < length r.channels = ltb-true j (length r.channels) a in
      let right : k < length r.channels = ltb-true k (length r.channels) b in
      same_name (channel_names r) j k (channels_unique r q) (omega (arith, many, left)) (omega (arith, many, right))

  read_at : (f : IndexedEnd) (role : Role) (k : ℕ) → nat_lt f.channel (length r.channels) ≡ true → nat_lt k (length r.channels) ≡ true
      → reads_from (channel_end_named r f) role (name_at (channel_names r) k) ≡ option_map_or (λ y. y == k) (channel_read role f.channel) false
  read_at f Reader k a b = same_channel f.channel k a b
  read_at f Writer k a b = refl

  -- who reads a channel
  reads_at : (s : Subject) (k : ℕ) → subject_in_range r s ≡ true → nat_lt k (length r.channels) ≡ true
      → list_any (λ f. reads_from f f.role (name_at (channel_names r) k)) (channel_ends (source_of r) (subject_named r s)) ≡ is_among (filter_map (λ f. channel_read f.role f.channel) (channel_ends_of r s)) k
  reads_at s k in_range b =
      ap (list_any (λ (f : ChannelEnd). reads_from f f.role (name_at (channel_names r) k))) (ends_by_index r s q in_range)
      ∙ list_any-map (λ (f : ChannelEnd). reads_from f f.role (name_at (channel_names r) k)) (channel_end_named r) (channel_ends_of r s)
      ∙ any_agree (λ f. reads_from (channel_end_named r f) f.role (name_at (channel_names r) k)) (λ f. option_map_or (λ y. y == k) (channel_read f.role f.channel) false) (channel_ends_of r s)
      (λ f i. read_at f f.role k (passes_in (λ (e : IndexedEnd). nat_lt e.channel (length r.channels)) (channel_ends_of r s) (ends_in_range r s in_range) f i) b)
      ∙ sym (any_filter_map (λ y. y == k) (λ (f : IndexedEnd). channel_read f.role f.channel) (channel_ends_of r s))

  written_at : (s : Subject) (role : Role) (k : ℕ) → subject_in_range r s ≡ true → nat_lt k (length r.channels) ≡ true
      → (is_writer role && list_any (λ f. reads_from f f.role (name_at (channel_names r) k)) (channel_ends (source_of r) (subject_named r s))) ≡ option_map_or (is_among (filter_map (λ f. channel_read f.role f.channel) (channel_ends_of r s))) (channel_written role k) false
  written_at s Writer k in_range b = reads_at s k in_range b
  written_at s Reader k in_range b = refl

  pub channel_same : (u s : Subject) → subject_in_range r u ≡ true → subject_in_range r s ≡ true
      → by_channel (source_of r) (subject_named r u) (subject_named r s)
      ≡ share (filter_map (λ e. channel_written e.role e.channel) (channel_ends_of r u)) (filter_map (λ e. channel_read e.role e.channel) (channel_ends_of r s))
  channel_same u s a b =
      let readers = channel_ends (source_of r) (subject_named r s) in
      let numbers = filter_map (λ (f : IndexedEnd). channel_read f.role f.channel) (channel_ends_of r s) in
      ap (list_any (λ (e : ChannelEnd). is_writer e.role && list_any (λ f. reads_from f f.role e.channel) readers)) (ends_by_index r u q a)
      ∙ list_any-map (λ (e : ChannelEnd). is_writer e.role && list_any (λ f. reads_from f f.role e.channel) readers) (channel_end_named r) (channel_ends_of r u)
      ∙ any_agree (λ e. is_writer e.role && list_any (λ f. reads_from f f.role (name_at (channel_names r) e.channel)) readers) (λ e. option_map_or (is_among numbers) (channel_written e.role e.channel) false) (channel_ends_of r u)
      (λ e i. written_at s e.role e.channel b (passes_in (λ (e : IndexedEnd). nat_lt e.channel (length r.channels)) (channel_ends_of r u) (ends_in_range r u a) e i))
      ∙ sym (any_filter_map (is_among numbers) (λ (e : IndexedEnd). channel_written e.role e.channel) (channel_ends_of r u))
