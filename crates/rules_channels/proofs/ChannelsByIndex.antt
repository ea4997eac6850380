-- Rule 6 by names and by indexes.
use Rattle.std.proofs.Common.{◌≡◌, ℕ, ◌+◌, ◌<◌, Bool, true, List, [], length, map, Option, Some, None, get_or, sym, ap, ◌∙◌, arith}
use Rattle.std.specs.Prelude.{◌==◌, ◌&&◌, ◌||◌, is_some, not, nat_le, slice_get}
use Rattle.std.specs.List.{enumerate_from, list_all}
use Rattle.std.specs.Str.{bytes_eq}
use Rattle.std.proofs.lemmas.List.{length-map, get_or-map}
use Rattle.std.proofs.lemmas.List.Folds.{list_all-append, list_all-map}
use Rattle.std.proofs.lemmas.Option.{slice_get_within, get_or_from_slice_get}
use Rattle.muen_num.specs.Search.{first_in, unless}
use Rattle.muen_num.specs.declared.mode.EventMode.{EventMode}
use Rattle.muen_num.proofs.Lists.{all_true}
use Rattle.muen_num.proofs.SameAnswers.{first_numbered_same, list_all_same}
use Rattle.muen_num.proofs.Numbers.{at_least_one}
use Rattle.policy_lawful.specs.MoreRules as rules
use Rattle.policy_lawful.specs.MoreRules.{is_switch, offence_6, readers_of, writers_of}
use Rattle.policy_lawful.specs.Offences.{alone}
use Rattle.policy_lawful.specs.Resolution.{Resolution, IsResolved, name_at, source_of}
use Rattle.policy_lawful.specs.Events.{ChannelEnd}
use Rattle.policy_lawful.specs.source.Channel.{Channel}
use Rattle.policy_lawful.proofs.UniqueNames.{channel_names}
use Rattle.rules_channels.specs.ByIndex.{AreItems}
use Rattle.rules_channels.specs.Channels.{channel_fault, ends_fit_event, has_call, has_neither, is_apart_from_readers, are_ends_connected}
use Rattle.rules_channels.specs.ChannelEnds.{all_readers, all_writers}
use Rattle.rules_channels.specs.declared.channel_ends.Met.{Met}
use Rattle.rules_channels.proofs.EndsByChannel.{met_named, readers_same, writers_same}

-- what rule 6 asks of these writers and readers
abbrev connected_by : List (List ℕ × ChannelEnd) → List (List ℕ × ChannelEnd) → Option EventMode → Bool
connected_by writers readers mode =
    (length writers == 1)
    && nat_le 1 (length readers)
    && list_all (λ w. list_all (λ r. not (bytes_eq r.0 w.0)) readers) writers
    && rules.fits_event writers readers mode

fits_same : (r : Resolution) (writers readers : List Met) (mode : Option EventMode) → rules.fits_event (map (met_named r) writers) (map (met_named r) readers) mode ≡ ends_fit_event writers readers mode
fits_same r writers readers None =
    list_all-append (λ e. not (is_some e.1.call) && not (is_some e.1.vector)) (map (met_named r) writers) (map (met_named r) readers)
    ∙ ap (λ b. b && list_all (λ e. not (is_some e.1.call) && not (is_some e.1.vector)) (map (met_named r) readers)) (list_all-map (λ e. not (is_some e.1.call) && not (is_some e.1.vector)) (met_named r) writers)
    ∙ ap (λ b. list_all has_neither writers && b) (list_all-map (λ e. not (is_some e.1.call) && not (is_some e.1.vector)) (met_named r) readers)
fits_same r writers readers (Some mode) =
    ap (λ n. (n == 1) && list_all (λ e. is_some e.1.call && not (is_some e.1.vector)) (map (met_named r) writers) && list_all (λ e. not (is_some e.1.call) && (is_some e.1.vector || is_switch mode)) (map (met_named r) readers)) (length-map readers (met_named r))
    ∙ ap (λ b. (length readers == 1) && b && list_all (λ e. not (is_some e.1.call) && (is_some e.1.vector || is_switch mode)) (map (met_named r) readers)) (list_all-map (λ e. is_some e.1.call && not (is_some e.1.vector)) (met_named r) writers)
    ∙ ap (λ b. (length readers == 1) && list_all has_call writers && b) (list_all-map (λ e. not (is_some e.1.call) && (is_some e.1.vector || is_switch mode)) (met_named r) readers)

apart_same : (r : Resolution) (writers readers : List Met) → list_all (λ w. list_all (λ x. not (bytes_eq x.0 w.0)) (map (met_named r) readers)) (map (met_named r) writers) ≡ list_all (is_apart_from_readers readers) writers
apart_same r writers readers =
    list_all-map (λ w. list_all (λ x. not (bytes_eq x.0 w.0)) (map (met_named r) readers)) (met_named r) writers
    ∙ list_all_same (λ w. list_all (λ x. not (bytes_eq x.0 w.party.name)) (map (met_named r) readers)) (is_apart_from_readers readers) (λ _. true)
    (λ w _. list_all-map (λ x. not (bytes_eq x.0 w.party.name)) (met_named r) readers) writers (all_true writers)

connected_same : (r : Resolution) (writers readers : List Met) (mode : Option EventMode) → connected_by (map (met_named r) writers) (map (met_named r) readers) mode ≡ are_ends_connected writers readers mode
connected_same r writers readers mode =
    ap (λ n. (n == 1) && nat_le 1 (length (map (met_named r) readers)) && list_all (λ w. list_all (λ x. not (bytes_eq x.0 w.0)) (map (met_named r) readers)) (map (met_named r) writers) && rules.fits_event (map (met_named r) writers) (map (met_named r) readers) mode) (length-map writers (met_named r))
    ∙ ap (λ b. (length writers == 1) && b && list_all (λ w. list_all (λ x. not (bytes_eq x.0 w.0)) (map (met_named r) readers)) (map (met_named r) writers) && rules.fits_event (map (met_named r) writers) (map (met_named r) readers) mode) (ap (nat_le 1) (length-map readers (met_named r)) ∙ at_least_one (length readers))
    ∙ ap (λ b. (length writers == 1) && not (length readers == 0) && b && rules.fits_event (map (met_named r) writers) (map (met_named r) readers) mode) (apart_same r writers readers)
    ∙ ap (λ b. (length writers == 1) && not (length readers == 0) && list_all (is_apart_from_readers readers) writers && b) (fits_same r writers readers mode)

pub name_of_channel : (r : Resolution) (k : ℕ) (c : Channel) → slice_get r.channels k ≡ Some c → c.name ≡ name_at (channel_names r) k
name_of_channel r k c at =
    sym (get_or-map (λ x. x.name) r.channels k c [] (slice_get_within r.channels k c at) ∙ ap (λ x. x.name) (get_or_from_slice_get r.channels k c c at))

channel_same : (r : Resolution) (writers readers : List (List Met)) → IsResolved r → AreItems writers (length r.channels) (all_writers r) → AreItems readers (length r.channels) (all_readers r)
    → (k : ℕ) (c : Channel) → slice_get r.channels k ≡ Some c
    → unless (connected_by (writers_of (source_of r) c.name) (readers_of (source_of r) c.name) c.has_event) (alone c.name) ≡ channel_fault writers readers (0 + k, c)
channel_same r writers readers h a b k c is =
    let within : k < length r.channels = slice_get_within r.channels k c is in
    let index : 0 + k ≡ k = omega arith in
    let name : c.name ≡ name_at (channel_names r) k = name_of_channel r k c is in
    let w : writers_of (source_of r) c.name ≡ map (met_named r) (get_or writers k []) = ap (writers_of (source_of r)) name ∙ writers_same r k h within ∙ ap (map (met_named r)) (sym (a.at k within)) in
    let d : readers_of (source_of r) c.name ≡ map (met_named r) (get_or readers k []) = ap (readers_of (source_of r)) name ∙ readers_same r k h within ∙ ap (map (met_named r)) (sym (b.at k within)) in
    ap (λ xs. unless (connected_by xs (readers_of (source_of r) c.name) c.has_event) (alone c.name)) w
    ∙ ap (λ xs. unless (connected_by (map (met_named r) (get_or writers k [])) xs c.has_event) (alone c.name)) d
    ∙ ap (λ t. unless t (alone c.name)) (connected_same r (get_or writers k []) (get_or readers k []) c.has_event)
    ∙ ap (λ j. channel_fault writers readers (j, c)) (sym index)

pub connected_by_index : (r : Resolution) (writers readers : List (List Met)) → IsResolved r → AreItems writers (length r.channels) (all_writers r) → AreItems readers (length r.channels) (all_readers r)
    → first_in (channel_fault writers readers) (enumerate_from 0 r.channels) ≡ offence_6 (source_of r)
unfolding offence_6 source_of
connected_by_index r writers readers h a b =
    sym (first_numbered_same (λ c. unless (rules.is_connected (source_of r) c) (alone c.name)) (channel_fault writers readers) 0 r.channels (channel_same r writers readers h a b))
