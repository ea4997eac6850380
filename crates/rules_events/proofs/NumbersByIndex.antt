-- Rules 14 and 15 by names and by indexes.
use Rattle.std.proofs.Common.{◌≡◌, ℕ, ◌-◌, true, false, List, [], ◌∷◌, ◌++◌, length, map, Option, refl, sym, ap, ◌∙◌, arith}
use Rattle.std.specs.Prelude.{◌&&◌, ◌||◌, is_some, nat_le, nat_lt}
use Rattle.std.specs.Option.{option_map_or}
use Rattle.std.specs.List.{filter_map, flat_map, list_all}
use Rattle.std.proofs.lemmas.Bool.{and_parts, ltb-true}
use Rattle.std.proofs.lemmas.Bool.Decides.{nat_tests}
use Rattle.std.proofs.lemmas.List.Concat.{flat_map-cons}
use Rattle.std.proofs.lemmas.List.Folds.{list_all-map}
use Rattle.muen_num.specs.Search.{first_in, unless}
use Rattle.muen_num.specs.declared.limits.TheConstants.{MOST_CALLS}
use Rattle.muen_num.proofs.Lists.{all_true, map-map}
use Rattle.muen_num.proofs.SameAnswers.{first_in-map, list_all_same}
use Rattle.policy_lawful.specs.MoreRules as rules
use Rattle.policy_lawful.specs.MoreRules.{are_numbers, are_vectors, call_number, calls_of, is_switch, offence_14, offence_15, vectors_of}
use Rattle.muen_num.specs.Numbers.{are_distinct}
use Rattle.policy_lawful.specs.Offences.{alone}
use Rattle.policy_lawful.specs.Resolution.{Resolution, IsResolved, device_named, device_part, name_at, source_of, subject_named, subject_in_range}
use Rattle.policy_lawful.specs.declared.resolved.IrqUse.{IrqUse as ResolvedIrq}
use Rattle.policy_lawful.specs.source.IrqUse.{IrqUse}
use Rattle.policy_lawful.specs.declared.resolved.EventSource.{EventSource as ResolvedSource}
use Rattle.policy_lawful.specs.declared.resolved.EventTarget.{EventTarget as ResolvedTarget}
use Rattle.policy_lawful.specs.declared.resolved.Subject.{Subject as ResolvedSubject}
use Rattle.policy_lawful.proofs.Indexes.{found_at_index}
use Rattle.policy_lawful.proofs.SourceElements.{parts_in_range}
use Rattle.policy_lawful.proofs.UniqueNames.{unique}
use Rattle.policy_lawful.specs.Events.{channel_ends, trap_number}
use Rattle.policy_lawful.specs.source.EventSource.{EventSource}
use Rattle.policy_lawful.specs.source.EventTarget.{EventTarget}
use Rattle.policy_lawful.specs.Views.{channel_end_named, channel_ends_of}
use Rattle.policy_lawful.proofs.EndsByIndex.{ends_by_index}
use Rattle.rules_events.specs.Calls.{calls_at, traps_at, call_offence}
use Rattle.rules_events.specs.Numbers.{are_distinct_in}
use Rattle.rules_events.specs.Vectors.{target_has_vector, switches, irq_vectors, vectors_at, vector_offence}

-- ---- lists

pub filter_map_both : {X Y Z : Type 0} (g : Y → Option Z) (f : X → Y) (h : X → Option Z) → ((x : X) → g (f x) ≡ h x) → (xs : List X) → filter_map g (map f xs) ≡ filter_map h xs
filter_map_both g f h same [] = refl
filter_map_both g f h same (x ∷ xs) = rw (same x, filter_map_both g f h same xs) refl

pub flat_map_both : {X Y Z : Type 0} (g : Y → List Z) (f : X → Y) (h : X → List Z) → ((x : X) → g (f x) ≡ h x) → (xs : List X) → flat_map g (map f xs) ≡ flat_map h xs
flat_map_both g f h same [] = refl
flat_map_both g f h same (x ∷ xs) = flat_map-cons g (f x) (map f xs) ∙ ap (λ ys. ys ++ flat_map g (map f xs)) (same x) ∙ ap (λ ys. h x ++ ys) (flat_map_both g f h same xs) ∙ sym (flat_map-cons h x xs)

-- ---- numbers of calls

within_calls : (n : ℕ) → (nat_le 0 n && nat_le n (MOST_CALLS - 1)) ≡ nat_lt n MOST_CALLS
within_calls n = grind (arith, nat_tests)

pub numbers_in : (ns : List ℕ) → are_distinct_in 0 (MOST_CALLS - 1) ns ≡ are_numbers ns
numbers_in ns = ap (λ b. b && are_distinct ns) (list_all_same (λ n. nat_le 0 n && nat_le n (MOST_CALLS - 1)) (λ n. nat_lt n MOST_CALLS) (λ _. true) (λ n _. within_calls n) ns (all_true ns))

-- ---- elements by their names

abbrev source_named : Resolution → ResolvedSource → EventSource
source_named r e = record { event = name_at (map (λ x. x.name) r.events) e.event; way = e.way }

abbrev target_named : Resolution → ResolvedTarget → EventTarget
target_named r e = record { event = name_at (map (λ x. x.name) r.events) e.event; vector = e.vector }

abbrev irq_named : Resolution → ℕ → ResolvedIrq → IrqUse
irq_named r device i = record { irq = name_at (device_part r (λ x. map (λ m. m.name) x.irqs) device) i.irq; vector = i.vector }

-- ---- rule 14

calls_same : (r : Resolution) (s : ResolvedSubject) → IsResolved r → subject_in_range r s ≡ true → calls_of (source_of r) (subject_named r s) ≡ calls_at r s
calls_same r s resolved in_range =
    let own : filter_map (λ e. call_number e.way) (map (source_named r) s.sources) ≡ filter_map (λ e. call_number e.way) s.sources =
    filter_map_both (λ e. call_number e.way) (source_named r) (λ e. call_number e.way) (λ e. refl) s.sources in
    let of_ends : filter_map (λ e. e.call) (channel_ends (source_of r) (subject_named r s)) ≡ filter_map (λ e. e.call) (channel_ends_of r s) =
    ap (filter_map (λ e. e.call)) (ends_by_index r s resolved in_range) ∙ filter_map_both (λ e. e.call) (channel_end_named r) (λ e. e.call) (λ e. refl) (channel_ends_of r s) in
    ap (λ xs. xs ++ filter_map (λ e. e.call) (channel_ends (source_of r) (subject_named r s))) own ∙ ap (λ xs. filter_map (λ e. call_number e.way) s.sources ++ xs) of_ends

traps_same : (r : Resolution) (s : ResolvedSubject) → filter_map (λ e. trap_number e.way) (subject_named r s).sources ≡ traps_at s
traps_same r s = filter_map_both (λ e. trap_number e.way) (source_named r) (λ e. trap_number e.way) (λ e. refl) s.sources

call_same : (r : Resolution) (s : ResolvedSubject) → IsResolved r → subject_in_range r s ≡ true
    → unless (are_numbers (calls_of (source_of r) (subject_named r s)) && are_numbers (filter_map (λ e. trap_number e.way) (subject_named r s).sources)) (alone s.name) ≡ call_offence r s
call_same r s resolved in_range =
    ap (λ ns. unless (are_numbers ns && are_numbers (filter_map (λ e. trap_number e.way) (subject_named r s).sources)) (alone s.name)) (calls_same r s resolved in_range)
    ∙ ap (λ ns. unless (are_numbers (calls_at r s) && are_numbers ns) (alone s.name)) (traps_same r s)

pub calls_by_index : (r : Resolution) → IsResolved r → first_in (call_offence r) r.subjects ≡ offence_14 (source_of r)
unfolding offence_14 source_of
calls_by_index r resolved =
    sym (first_in-map (subject_named r)
    (λ s. unless (are_numbers (calls_of (source_of r) s) && are_numbers (filter_map (λ e. trap_number e.way) s.sources)) (alone s.name))
    (call_offence r) (subject_in_range r) (λ s ok. call_same r s resolved ok) r.subjects (parts_in_range r resolved.in_range).subjects)

-- ---- rule 15

-- whether the event at an index switches
switch_same : (r : Resolution) (index : ℕ) → IsResolved r → nat_lt index (length r.events) ≡ true → rules.is_switch_event (source_of r) (name_at (map (λ e. e.name) r.events) index) ≡ switches r.events index
unfolding source_of
switch_same r index resolved ok =
    ap (λ o. option_map_or (λ e. is_switch e.mode) o false) (found_at_index (λ e. e.name) r.events index (unique (source_of r) resolved.names).events (ltb-true index (length r.events) ok))

has_vector_same : (r : Resolution) (t : ResolvedTarget) → IsResolved r → nat_lt t.event (length r.events) ≡ true → rules.has_vector (source_of r) (target_named r t) ≡ target_has_vector r.events t
has_vector_same r t resolved ok = ap (λ b. is_some t.vector || b) (switch_same r t.event resolved ok)

have_vectors : (r : Resolution) (s : ResolvedSubject) → IsResolved r → subject_in_range r s ≡ true → list_all (rules.has_vector (source_of r)) (subject_named r s).targets ≡ list_all (target_has_vector r.events) s.targets
have_vectors r s resolved in_range =
    list_all-map (rules.has_vector (source_of r)) (target_named r) s.targets
    ∙ list_all_same (λ t. rules.has_vector (source_of r) (target_named r t)) (target_has_vector r.events) (λ t. nat_lt t.event (length r.events)) (λ t ok. has_vector_same r t resolved ok) s.targets (and_parts _ _ (and_parts _ _ in_range).0).1

irqs_same : (r : Resolution) (s : ResolvedSubject) → flat_map (λ d. map (λ i. i.vector) d.irqs) (subject_named r s).devices ≡ irq_vectors s
irqs_same r s = flat_map_both (λ d. map (λ i. i.vector) d.irqs) (device_named r) (λ d. map (λ i. i.vector) d.irqs) (λ d. map-map (λ i. i.vector) (irq_named r d.device) d.irqs) s.devices

vectors_same : (r : Resolution) (s : ResolvedSubject) → IsResolved r → subject_in_range r s ≡ true → vectors_of (source_of r) (subject_named r s) ≡ vectors_at r s
vectors_same r s resolved in_range =
    let own : filter_map (λ t. t.vector) (subject_named r s).targets ≡ filter_map (λ t. t.vector) s.targets =
    filter_map_both (λ t. t.vector) (target_named r) (λ t. t.vector) (λ t. refl) s.targets in
    let of_ends : filter_map (λ e. e.vector) (channel_ends (source_of r) (subject_named r s)) ≡ filter_map (λ e. e.vector) (channel_ends_of r s) =
    ap (filter_map (λ e. e.vector)) (ends_by_index r s resolved in_range) ∙ filter_map_both (λ e. e.vector) (channel_end_named r) (λ e. e.vector) (λ e. refl) (channel_ends_of r s) in
    ap (λ xs. xs ++ filter_map (λ e. e.vector) (channel_ends (source_of r) (subject_named r s)) ++ flat_map (λ d. map (λ i. i.vector) d.irqs) (subject_named r s).devices) own
    ∙ ap (λ xs. filter_map (λ t. t.vector) s.targets ++ xs ++ flat_map (λ d. map (λ i. i.vector) d.irqs) (subject_named r s).devices) of_ends
    ∙ ap (λ xs. filter_map (λ t. t.vector) s.targets ++ filter_map (λ e. e.vector) (channel_ends_of r s) ++ xs) (irqs_same r s)

vector_same : (r : Resolution) (s : ResolvedSubject) → IsResolved r → subject_in_range r s ≡ true
    → unless (list_all (rules.has_vector (source_of r)) (subject_named r s).targets && are_vectors (vectors_of (source_of r) (subject_named r s))) (alone s.name) ≡ vector_offence r s
vector_same r s resolved in_range =
    ap (λ b. unless (b && are_vectors (vectors_of (source_of r) (subject_named r s))) (alone s.name)) (have_vectors r s resolved in_range)
    ∙ ap (λ ns. unless (list_all (target_has_vector r.events) s.targets && are_vectors ns) (alone s.name)) (vectors_same r s resolved in_range)

pub vectors_by_index : (r : Resolution) → IsResolved r → first_in (vector_offence r) r.subjects ≡ offence_15 (source_of r)
unfolding offence_15 source_of
vectors_by_index r resolved =
    sym (first_in-map (subject_named r)
    (λ s. unless (list_all (rules.has_vector (source_of r)) s.targets && are_vectors (vectors_of (source_of r) s)) (alone s.name))
    (vector_offence r) (subject_in_range r) (λ s ok. vector_same r s resolved ok) r.subjects (parts_in_range r resolved.in_range).subjects)
