-- The sources and targets of events by names and by indexes, and rule 12.
use Rattle.std.proofs.Common.{◌≡◌, ℕ, ◌+◌, ◌<◌, true, List, [], length, map, Some, get_or, sym, ap, ◌∙◌, refl, arith}
use Rattle.std.specs.Prelude.{◌==◌, ◌&&◌, not, filter, nat_le, nat_lt, slice_get}
use Rattle.std.specs.List.{enumerate_from, flat_map}
use Rattle.std.specs.Str.{bytes_eq}
use Rattle.std.proofs.lemmas.Bool.{and_parts, ltb-true}
use Rattle.std.proofs.lemmas.List.{length-map, get_or-map}
use Rattle.std.proofs.lemmas.Option.{slice_get_within, get_or_from_slice_get}
use Rattle.muen_num.specs.Search.{first_in, unless}
use Rattle.muen_num.proofs.SameAnswers.{first_numbered_same}
use Rattle.muen_num.proofs.Numbers.{at_least_one}
use Rattle.policy_lawful.specs.MoreRules.{offence_12, sources_of, targets_of}
use Rattle.policy_lawful.specs.Offences.{alone}
use Rattle.policy_lawful.specs.Resolution.{Resolution, IsResolved, name_at, source_of, subject_named, subject_in_range}
use Rattle.policy_lawful.specs.declared.resolved.EventSource.{EventSource as ResolvedSource}
use Rattle.policy_lawful.specs.declared.resolved.EventTarget.{EventTarget as ResolvedTarget}
use Rattle.policy_lawful.proofs.Indexes.{same_name}
use Rattle.policy_lawful.proofs.SourceElements.{parts_in_range}
use Rattle.policy_lawful.proofs.UniqueNames.{event_names, events_unique}
use Rattle.policy_lawful.specs.source.Event.{Event}
use Rattle.policy_lawful.specs.source.EventSource.{EventSource}
use Rattle.policy_lawful.specs.source.EventTarget.{EventTarget}
use Rattle.rules_channels.specs.ByIndex.{AreItems}
use Rattle.rules_events.specs.Events.{event_fault}
use Rattle.rules_channels.specs.Parties.{party, source_parties, target_parties, sources_at, targets_at}
use Rattle.rules_channels.specs.declared.parties.Party.{Party}
use Rattle.rules_channels.proofs.Items.{of_all, of_one}

abbrev source_named : Resolution → ResolvedSource → EventSource
source_named r e = record { event = name_at (event_names r) e.event; way = e.way }

abbrev target_named : Resolution → ResolvedTarget → EventTarget
target_named r e = record { event = name_at (event_names r) e.event; vector = e.vector }

-- two events by name or by index
same_event : (r : Resolution) (j k : ℕ) → IsResolved r → nat_lt j (length r.events) ≡ true → k < length r.events → bytes_eq (name_at (event_names r) j) (name_at (event_names r) k) ≡ (j == k)
same_event r j k h ok within =
    let many : length (event_names r) ≡ length r.events = length-map r.events (λ x. x.name) in
    let here : j < length r.events = ltb-true j (length r.events) ok in
    same_name (event_names r) j k (events_unique r h) (omega (arith, many, here)) (omega (arith, many, within))

-- the sources of the event at an index
pub sources_same : (r : Resolution) (k : ℕ) → IsResolved r → k < length r.events → sources_of (source_of r) (name_at (event_names r) k) ≡ map (λ x. x.name) (sources_at r k)
unfolding source_of
sources_same r k h within =
    of_all (subject_named r) (subject_in_range r) k (λ s. map (λ e. s.name) (filter (λ e. bytes_eq e.event (name_at (event_names r) k)) s.sources)) source_parties (λ (x : Party). x.name)
    (λ n s ok. of_one (λ e. bytes_eq e.event (name_at (event_names r) k)) (source_named r) (λ e. e.event) (λ e. nat_lt e.event (length r.events)) k (λ e ok. same_event r e.event k h ok within)
    (λ e. s.name) (λ e. party (n, s)) (λ x. x.name) (λ e. refl) s.sources (and_parts _ _ (and_parts _ _ (and_parts _ _ ok).0).0).1)
    0 r.subjects (parts_in_range r h.in_range).subjects

-- and its targets
pub targets_same : (r : Resolution) (k : ℕ) → IsResolved r → k < length r.events → targets_of (source_of r) (name_at (event_names r) k) ≡ map (λ x. x.name) (targets_at r k)
unfolding source_of
targets_same r k h within =
    of_all (subject_named r) (subject_in_range r) k (λ s. map (λ e. s.name) (filter (λ e. bytes_eq e.event (name_at (event_names r) k)) s.targets)) target_parties (λ (x : Party). x.name)
    (λ n s ok. of_one (λ e. bytes_eq e.event (name_at (event_names r) k)) (target_named r) (λ e. e.event) (λ e. nat_lt e.event (length r.events)) k (λ e ok. same_event r e.event k h ok within)
    (λ e. s.name) (λ e. party (n, s)) (λ x. x.name) (λ e. refl) s.targets (and_parts _ _ (and_parts _ _ ok).0).1)
    0 r.subjects (parts_in_range r h.in_range).subjects

-- ---- rule 12

pub name_of_event : (r : Resolution) (k : ℕ) (e : Event) → slice_get r.events k ≡ Some e → e.name ≡ name_at (event_names r) k
name_of_event r k e at =
    sym (get_or-map (λ x. x.name) r.events k e [] (slice_get_within r.events k e at) ∙ ap (λ x. x.name) (get_or_from_slice_get r.events k e e at))

event_same : (r : Resolution) (sources targets : List (List Party)) → IsResolved r
    → AreItems sources (length r.events) (flat_map source_parties (enumerate_from 0 r.subjects)) → AreItems targets (length r.events) (flat_map target_parties (enumerate_from 0 r.subjects))
    → (k : ℕ) (e : Event) → slice_get r.events k ≡ Some e
    → unless (nat_le 1 (length (sources_of (source_of r) e.name)) && (length (targets_of (source_of r) e.name) == 1)) (alone e.name) ≡ event_fault sources targets (0 + k, e)
event_same r sources targets h a b k e is =
    let within : k < length r.events = slice_get_within r.events k e is in
    let index : 0 + k ≡ k = omega arith in
    let name : e.name ≡ name_at (event_names r) k = name_of_event r k e is in
    let s : length (sources_of (source_of r) e.name) ≡ length (get_or sources k []) =
    ap (λ n. length (sources_of (source_of r) n)) name ∙ ap length (sources_same r k h within) ∙ length-map (sources_at r k) (λ x. x.name) ∙ ap length (sym (a.at k within)) in
    let t : length (targets_of (source_of r) e.name) ≡ length (get_or targets k []) =
    ap (λ n. length (targets_of (source_of r) n)) name ∙ ap length (targets_same r k h within) ∙ length-map (targets_at r k) (λ x. x.name) ∙ ap length (sym (b.at k within)) in
    ap (λ n. unless (n && (length (targets_of (source_of r) e.name) == 1)) (alone e.name)) (at_least_one (length (sources_of (source_of r) e.name)) ∙ ap (λ n. not (n == 0)) s)
    ∙ ap (λ n. unless (not (length (get_or sources k []) == 0) && (n == 1)) (alone e.name)) t
    ∙ ap (λ j. event_fault sources targets (j, e)) (sym index)

pub sourced_by_index : (r : Resolution) (sources targets : List (List Party)) → IsResolved r
    → AreItems sources (length r.events) (flat_map source_parties (enumerate_from 0 r.subjects)) → AreItems targets (length r.events) (flat_map target_parties (enumerate_from 0 r.subjects))
    → first_in (event_fault sources targets) (enumerate_from 0 r.events) ≡ offence_12 (source_of r)
unfolding offence_12 source_of
sourced_by_index r sources targets h a b =
    sym (first_numbered_same (λ e. unless (nat_le 1 (length (sources_of (source_of r) e.name)) && (length (targets_of (source_of r) e.name) == 1)) (alone e.name)) (event_fault sources targets) 0 r.events (event_same r sources targets h a b))
