-- The ends of a channel by names and by indexes.
use Rattle.std.proofs.Common.{◌≡◌, ℕ, ◌<◌, true, List, length, map, refl, sym, ap, ◌∙◌, arith}
use Rattle.std.specs.Prelude.{◌==◌, filter, nat_lt, not}
use Rattle.std.specs.Str.{bytes_eq}
use Rattle.std.proofs.lemmas.Bool.{ltb-true}
use Rattle.std.proofs.lemmas.List.{length-map}
use Rattle.muen_num.proofs.Lists.{filter-map}
use Rattle.policy_lawful.specs.MoreRules as rules
use Rattle.policy_lawful.specs.MoreRules.{is_writer, readers_of, writers_of}
use Rattle.policy_lawful.specs.Resolution.{Resolution, IsResolved, name_at, source_of, subject_named, subject_in_range}
use Rattle.policy_lawful.specs.declared.resolved.Subject.{Subject as ResolvedSubject}
use Rattle.policy_lawful.proofs.Indexes.{same_name}
use Rattle.policy_lawful.proofs.SourceElements.{parts_in_range}
use Rattle.policy_lawful.proofs.UniqueNames.{channel_names, channels_unique}
use Rattle.policy_lawful.specs.Events.{ChannelEnd, channel_ends}
use Rattle.policy_lawful.specs.Views.{channel_end_named, channel_ends_of}
use Rattle.policy_lawful.specs.declared.view.IndexedEnd.{IndexedEnd}
use Rattle.policy_lawful.proofs.EndsByIndex.{ends_by_index, ends_in_range}
use Rattle.rules_channels.specs.ByIndex.{items_at_index}
use Rattle.rules_channels.specs.ChannelEnds.{met, met_channel_ends, all_channel_ends, all_readers, all_writers, is_reading_end, is_writing_end}
use Rattle.rules_channels.specs.Parties.{party}
use Rattle.rules_channels.specs.declared.channel_ends.Met.{Met}
use Rattle.rules_channels.proofs.Items.{of_all, of_one}
use Rattle.rules_channels.proofs.NotedItems.{items-filter}

-- an end with the name of its subject
abbrev pub met_named : Resolution → Met → List ℕ × ChannelEnd
met_named r m = (m.party.name, channel_end_named r m.end)

same_channel : (r : Resolution) (j k : ℕ) → IsResolved r → nat_lt j (length r.channels) ≡ true → k < length r.channels → bytes_eq (name_at (channel_names r) j) (name_at (channel_names r) k) ≡ (j == k)
same_channel r j k h ok within =
    let many : length (channel_names r) ≡ length r.channels = length-map r.channels (λ x. x.name) in
    let here : j < length r.channels = ltb-true j (length r.channels) ok in
    same_name (channel_names r) j k (channels_unique r h) (omega (arith, many, here)) (omega (arith, many, within))

-- of one subject
of_subject : (r : Resolution) (k n : ℕ) (s : ResolvedSubject) → IsResolved r → k < length r.channels → subject_in_range r s ≡ true
    → map (λ e. (s.name, e)) (filter (λ e. bytes_eq e.channel (name_at (channel_names r) k)) (channel_ends (source_of r) (subject_named r s))) ≡ map (met_named r) (items_at_index k (met_channel_ends r (n, s)))
of_subject r k n s h within ok =
    ap (λ es. map (λ e. (s.name, e)) (filter (λ e. bytes_eq e.channel (name_at (channel_names r) k)) es)) (ends_by_index r s h ok)
    ∙ of_one (λ (e : ChannelEnd). bytes_eq e.channel (name_at (channel_names r) k)) (channel_end_named r) (λ (e : IndexedEnd). e.channel) (λ e. nat_lt e.channel (length r.channels)) k (λ e ok. same_channel r e.channel k h ok within)
    (λ e. (s.name, e)) (met (party (n, s))) (met_named r) (λ e. refl) (channel_ends_of r s) (ends_in_range r s ok)

-- of all
pub channel_ends_same : (r : Resolution) (k : ℕ) → IsResolved r → k < length r.channels → rules.ends_of_channel (source_of r) (name_at (channel_names r) k) ≡ map (met_named r) (items_at_index k (all_channel_ends r))
unfolding source_of
channel_ends_same r k h within =
    of_all (subject_named r) (subject_in_range r) k (λ s. map (λ e. (s.name, e)) (filter (λ e. bytes_eq e.channel (name_at (channel_names r) k)) (channel_ends (source_of r) s))) (met_channel_ends r) (met_named r)
    (λ n s ok. of_subject r k n s h within ok) 0 r.subjects (parts_in_range r h.in_range).subjects

-- its writers
pub writers_same : (r : Resolution) (k : ℕ) → IsResolved r → k < length r.channels → writers_of (source_of r) (name_at (channel_names r) k) ≡ map (met_named r) (items_at_index k (all_writers r))
writers_same r k h within =
    ap (filter (λ e. is_writer e.1.role)) (channel_ends_same r k h within)
    ∙ filter-map (λ e. is_writer e.1.role) (met_named r) (items_at_index k (all_channel_ends r))
    ∙ ap (map (met_named r)) (sym (items-filter is_writing_end k (all_channel_ends r)))

-- and its readers
pub readers_same : (r : Resolution) (k : ℕ) → IsResolved r → k < length r.channels → readers_of (source_of r) (name_at (channel_names r) k) ≡ map (met_named r) (items_at_index k (all_readers r))
readers_same r k h within =
    ap (filter (λ e. not (is_writer e.1.role))) (channel_ends_same r k h within)
    ∙ filter-map (λ e. not (is_writer e.1.role)) (met_named r) (items_at_index k (all_channel_ends r))
    ∙ ap (map (met_named r)) (sym (items-filter is_reading_end k (all_channel_ends r)))
