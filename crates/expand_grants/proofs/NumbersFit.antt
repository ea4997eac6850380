-- The numbers of a subject's calls, traps and vectors fit.
use Rattle.std.proofs.Common.{◌≡◌, ℕ, ◌^◌, Bool, true, ◌++◌, map, Option, Some, None, refl, sym, ap, ◌∙◌, arith}
use Rattle.std.specs.Prelude.{◌&&◌, nat_le, nat_lt}
use Rattle.std.specs.Option.{option_map_or}
use Rattle.std.specs.List.{filter_map, flat_map, list_all}
use Rattle.std.proofs.lemmas.Bool.{and_from, and_parts}
use Rattle.std.proofs.lemmas.Bool.Decides.{nat_tests}
use Rattle.std.proofs.lemmas.List.Folds.{list_all-append, list_all-map}
use Rattle.muen_num.proofs.Lists.{each_from, each_of}
use Rattle.muen_num.proofs.SearchLaws.{all_pass}
use Rattle.muen_num.specs.declared.limits.TheConstants.{FIRST_VECTOR, LAST_VECTOR, MOST_CALLS}
use Rattle.policy_lawful.specs.MoreRules.{are_numbers, are_vectors, call_number, calls_of, has_vector, offence_14, offence_15, vectors_of}
use Rattle.muen_num.specs.Numbers.{are_distinct}
use Rattle.policy_lawful.specs.Offences.{alone}
use Rattle.policy_lawful.specs.Resolution.{IsResolved, Resolution, device_named, device_part, name_at, source_of, subject_named, subject_in_range}
use Rattle.policy_lawful.specs.declared.resolved.DeviceUse.{DeviceUse}
use Rattle.policy_lawful.specs.declared.resolved.EventSource.{EventSource}
use Rattle.policy_lawful.specs.declared.resolved.EventTarget.{EventTarget}
use Rattle.policy_lawful.specs.declared.resolved.IrqUse.{IrqUse}
use Rattle.policy_lawful.specs.declared.resolved.Subject.{Subject}
use Rattle.policy_lawful.proofs.SourceElements.{parts_in_range}
use Rattle.policy_lawful.specs.Events.{channel_ends, trap_number}
use Rattle.policy_lawful.specs.source.EventSource.{EventSource as NamedSource}
use Rattle.policy_lawful.specs.source.EventTarget.{EventTarget as NamedTarget}
use Rattle.policy_lawful.specs.source.IrqUse.{IrqUse as NamedIrq}
use Rattle.policy_lawful.specs.source.SourceWay.{SourceWay}
use Rattle.policy_lawful.specs.source.SourceWay.TheVariants.{Call, Trap}
use Rattle.policy_lawful.specs.source.Subject.{Subject as NamedSubject}
use Rattle.policy_lawful.specs.Views.{channel_end_named, channel_ends_of}
use Rattle.policy_lawful.proofs.EndsByIndex.{ends_by_index}
use Rattle.expand_grants.specs.ByIndex.{fits_irq, fits_use, fits_uses}
use Rattle.expand_grants.specs.Raising.{fits_channel_end, fits_channel_ends, fits_number, fits_source, fits_sources, fits_target, fits_targets, fits_way}
use Rattle.policy_lawful.proofs.EachPasses.{all_flat, all_some}

abbrev is_call_number : ℕ → Bool
is_call_number n = nat_lt n MOST_CALLS

abbrev is_vector : ℕ → Bool
is_vector n = nat_le FIRST_VECTOR n && nat_le n LAST_VECTOR

call_fits : (n : ℕ) → is_call_number n ≡ true → nat_lt n (2 ^ 8) ≡ true
call_fits n h = grind (arith, nat_tests, h)

vector_fits : (n : ℕ) → is_vector n ≡ true → nat_lt n (2 ^ 8) ≡ true
vector_fits n h = grind (arith, nat_tests, h)

call_in : (o : Option ℕ) → option_map_or is_call_number o true ≡ true → fits_number o ≡ true
call_in None h = refl
call_in (Some n) h = call_fits n h

vector_in : (o : Option ℕ) → option_map_or is_vector o true ≡ true → fits_number o ≡ true
vector_in None h = refl
vector_in (Some n) h = vector_fits n h

way_in : (way : SourceWay) → option_map_or is_call_number (call_number way) true ≡ true → option_map_or is_call_number (trap_number way) true ≡ true → fits_way way ≡ true
way_in (Call n) h k = call_fits n h
way_in (Trap n) h k = call_fits n k

abbrev pub source_named : Resolution → EventSource → NamedSource
source_named r e = record { event = name_at (map (λ x. x.name) r.events) e.event; way = e.way }

abbrev target_as : Resolution → EventTarget → NamedTarget
target_as r e = record { event = name_at (map (λ x. x.name) r.events) e.event; vector = e.vector }

abbrev irq_named : Resolution → ℕ → IrqUse → NamedIrq
irq_named r device i = record { irq = name_at (device_part r (λ x. map (λ m. m.name) x.irqs) device) i.irq; vector = i.vector }

-- ---- what the rules say of a subject

abbrev pub keeps_14 : Resolution → NamedSubject → Bool
keeps_14 r s = are_numbers (calls_of (source_of r) s) && are_numbers (filter_map (λ e. trap_number e.way) s.sources)

abbrev keeps_15 : Resolution → NamedSubject → Bool
keeps_15 r s = list_all (has_vector (source_of r)) s.targets && are_vectors (vectors_of (source_of r) s)

module _ (r : Resolution) (q : IsResolved r) (s : Subject) (in_range : subject_in_range r s ≡ true) where
  sources_fit : keeps_14 r (subject_named r s) ≡ true → fits_sources s ≡ true
  sources_fit h =
      let both = and_parts (are_numbers (calls_of (source_of r) (subject_named r s))) (are_numbers (filter_map (λ e. trap_number e.way) (subject_named r s).sources)) h in
      let calls = (and_parts (list_all is_call_number (calls_of (source_of r) (subject_named r s))) (are_distinct (calls_of (source_of r) (subject_named r s))) both.0).0 in
      let traps = (and_parts (list_all is_call_number (filter_map (λ e. trap_number e.way) (subject_named r s).sources)) (are_distinct (filter_map (λ e. trap_number e.way) (subject_named r s).sources)) both.1).0 in
      let own = (and_parts (list_all is_call_number (filter_map (λ e. call_number e.way) (subject_named r s).sources)) (list_all is_call_number (filter_map (λ e. e.call) (channel_ends (source_of r) (subject_named r s))))
      (sym (list_all-append is_call_number (filter_map (λ e. call_number e.way) (subject_named r s).sources) (filter_map (λ e. e.call) (channel_ends (source_of r) (subject_named r s)))) ∙ calls)).0 in
      let by_call : list_all (λ e. option_map_or is_call_number (call_number e.way) true) s.sources ≡ true =
      sym (all_some is_call_number (λ e. call_number e.way) (subject_named r s).sources ∙ list_all-map (λ e. option_map_or is_call_number (call_number e.way) true) (source_named r) s.sources) ∙ own in
      let by_trap : list_all (λ e. option_map_or is_call_number (trap_number e.way) true) s.sources ≡ true =
      sym (all_some is_call_number (λ e. trap_number e.way) (subject_named r s).sources ∙ list_all-map (λ e. option_map_or is_call_number (trap_number e.way) true) (source_named r) s.sources) ∙ traps in
      each_of (λ e. option_map_or is_call_number (call_number e.way) true) (λ e. option_map_or is_call_number (trap_number e.way) true) fits_source (λ e a b. way_in e.way a b) s.sources by_call by_trap

  channel_end_calls : keeps_14 r (subject_named r s) ≡ true → list_all (λ e. option_map_or is_call_number e.call true) (channel_ends_of r s) ≡ true
  channel_end_calls h =
      let both = and_parts (are_numbers (calls_of (source_of r) (subject_named r s))) (are_numbers (filter_map (λ e. trap_number e.way) (subject_named r s).sources)) h in
      let calls = (and_parts (list_all is_call_number (calls_of (source_of r) (subject_named r s))) (are_distinct (calls_of (source_of r) (subject_named r s))) both.0).0 in
      let of_ends = (and_parts (list_all is_call_number (filter_map (λ e. call_number e.way) (subject_named r s).sources)) (list_all is_call_number (filter_map (λ e. e.call) (channel_ends (source_of r) (subject_named r s))))
      (sym (list_all-append is_call_number (filter_map (λ e. call_number e.way) (subject_named r s).sources) (filter_map (λ e. e.call) (channel_ends (source_of r) (subject_named r s)))) ∙ calls)).1 in
      sym (all_some is_call_number (λ e. e.call) (channel_ends (source_of r) (subject_named r s))
      ∙ ap (list_all (λ e. option_map_or is_call_number e.call true)) (ends_by_index r s q in_range)
      ∙ list_all-map (λ e. option_map_or is_call_number e.call true) (channel_end_named r) (channel_ends_of r s)) ∙ of_ends

  -- the vectors of its targets, its ends and its devices' interrupts
  record Vectors : Type 0 where
    targets : list_all is_vector (filter_map (λ t. t.vector) (subject_named r s).targets) ≡ true
    ends : list_all is_vector (filter_map (λ e. e.vector) (channel_ends (source_of r) (subject_named r s))) ≡ true
    irqs : list_all is_vector (flat_map (λ d. map (λ i. i.vector) d.irqs) (subject_named r s).devices) ≡ true

  vectors : keeps_15 r (subject_named r s) ≡ true → Vectors
  vectors h =
      let both = and_parts (list_all (has_vector (source_of r)) (subject_named r s).targets) (are_vectors (vectors_of (source_of r) (subject_named r s))) h in
      let all = (and_parts (list_all is_vector (vectors_of (source_of r) (subject_named r s))) (are_distinct (vectors_of (source_of r) (subject_named r s))) both.1).0 in
      let a = filter_map (λ t. t.vector) (subject_named r s).targets in
      let b = filter_map (λ e. e.vector) (channel_ends (source_of r) (subject_named r s)) in
      let c = flat_map (λ d. map (λ i. i.vector) d.irqs) (subject_named r s).devices in
      let last = and_parts (list_all is_vector (a ++ b)) (list_all is_vector c) (sym (list_all-append is_vector (a ++ b) c) ∙ all) in
      let first = and_parts (list_all is_vector a) (list_all is_vector b) (sym (list_all-append is_vector a b) ∙ last.0) in
      record { targets = first.0; ends = first.1; irqs = last.1 }

  targets_fit : keeps_15 r (subject_named r s) ≡ true → fits_targets s ≡ true
  targets_fit h =
      each_from (λ t. option_map_or is_vector t.vector true) fits_target (λ t a. vector_in t.vector a) s.targets
      (sym (all_some is_vector (λ t. t.vector) (subject_named r s).targets ∙ list_all-map (λ t. option_map_or is_vector t.vector true) (target_as r) s.targets) ∙ (vectors h).targets)

  channel_ends_fit : keeps_14 r (subject_named r s) ≡ true → keeps_15 r (subject_named r s) ≡ true → fits_channel_ends r s ≡ true
  channel_ends_fit g h =
      each_of (λ e. option_map_or is_call_number e.call true) (λ e. option_map_or is_vector e.vector true) fits_channel_end
      (λ e a b. and_from (fits_number e.call) (fits_number e.vector) (call_in e.call a) (vector_in e.vector b)) (channel_ends_of r s) (channel_end_calls g)
      (sym (all_some is_vector (λ e. e.vector) (channel_ends (source_of r) (subject_named r s))
      ∙ ap (list_all (λ e. option_map_or is_vector e.vector true)) (ends_by_index r s q in_range)
      ∙ list_all-map (λ e. option_map_or is_vector e.vector true) (channel_end_named r) (channel_ends_of r s)) ∙ (vectors h).ends)

  use_fits : (d : DeviceUse) → list_all is_vector (map (λ i. i.vector) (device_named r d).irqs) ≡ true → fits_use d ≡ true
  use_fits d h =
      each_from (λ i. is_vector i.vector) fits_irq (λ i a. vector_fits i.vector a) d.irqs
      (sym (list_all-map is_vector (λ i. i.vector) (device_named r d).irqs ∙ list_all-map (λ i. is_vector i.vector) (irq_named r d.device) d.irqs) ∙ h)

  uses_fit : keeps_15 r (subject_named r s) ≡ true → fits_uses s ≡ true
  uses_fit h =
      each_from (λ d. list_all is_vector (map (λ i. i.vector) (device_named r d).irqs)) fits_use use_fits s.devices
      (sym (all_flat is_vector (λ d. map (λ i. i.vector) d.irqs) (subject_named r s).devices
      ∙ list_all-map (λ d. list_all is_vector (map (λ i. i.vector) d.irqs)) (device_named r) s.devices) ∙ (vectors h).irqs)

-- ---- of all subjects

module _ (r : Resolution) (q : IsResolved r) (lawful_14 : offence_14 (source_of r) ≡ None) (lawful_15 : offence_15 (source_of r) ≡ None) where
  pub all_14 : list_all (λ s. keeps_14 r (subject_named r s)) r.subjects ≡ true
  unfolding offence_14 source_of
  all_14 = sym (list_all-map (keeps_14 r) (subject_named r) r.subjects) ∙ all_pass (keeps_14 r) (λ s. alone s.name) (source_of r).subjects lawful_14

  all_15 : list_all (λ s. keeps_15 r (subject_named r s)) r.subjects ≡ true
  unfolding offence_15 source_of
  all_15 = sym (list_all-map (keeps_15 r) (subject_named r) r.subjects) ∙ all_pass (keeps_15 r) (λ s. alone s.name) (source_of r).subjects lawful_15

  pub all_sources_fit : list_all fits_sources r.subjects ≡ true
  all_sources_fit = each_of (subject_in_range r) (λ s. keeps_14 r (subject_named r s)) fits_sources (λ s p h. sources_fit r q s p h) r.subjects (parts_in_range r q.in_range).subjects all_14

  pub all_targets_fit : list_all fits_targets r.subjects ≡ true
  all_targets_fit = each_of (subject_in_range r) (λ s. keeps_15 r (subject_named r s)) fits_targets (λ s p h. targets_fit r q s p h) r.subjects (parts_in_range r q.in_range).subjects all_15

  pub all_uses_fit : list_all fits_uses r.subjects ≡ true
  all_uses_fit = each_of (subject_in_range r) (λ s. keeps_15 r (subject_named r s)) fits_uses (λ s p h. uses_fit r q s p h) r.subjects (parts_in_range r q.in_range).subjects all_15

  both_kept : list_all (λ s. keeps_14 r (subject_named r s) && keeps_15 r (subject_named r s)) r.subjects ≡ true
  both_kept = each_of (λ s. keeps_14 r (subject_named r s)) (λ s. keeps_15 r (subject_named r s)) (λ s. keeps_14 r (subject_named r s) && keeps_15 r (subject_named r s)) (λ s a b. and_from (keeps_14 r (subject_named r s)) (keeps_15 r (subject_named r s)) a b) r.subjects all_14 all_15

  pub all_channel_ends_fit : list_all (fits_channel_ends r) r.subjects ≡ true
  all_channel_ends_fit =
      each_of (subject_in_range r) (λ s. keeps_14 r (subject_named r s) && keeps_15 r (subject_named r s)) (fits_channel_ends r)
      (λ s p h. let b = and_parts (keeps_14 r (subject_named r s)) (keeps_15 r (subject_named r s)) h in channel_ends_fit r q s p b.0 b.1) r.subjects (parts_in_range r q.in_range).subjects both_kept
