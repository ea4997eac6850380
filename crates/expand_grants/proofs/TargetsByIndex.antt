-- Whom events reach, by names and by indexes, and that each reaches someone.
use Rattle.std.proofs.Common.{◌≡◌, ℕ, ◌<◌, true, length, map, Option, Some, None, refl, sym, ap, ◌∙◌, arith}
use Rattle.std.specs.Prelude.{◌==◌, ◌&&◌, filter, is_some, nat_le, nat_lt, option_and_then, option_map, slice_get}
use Rattle.std.specs.Str.{bytes_eq}
use Rattle.std.proofs.lemmas.Bool.{and_parts, ltb-true}
use Rattle.std.proofs.lemmas.List.{length-map}
use Rattle.muen_num.proofs.Lists.{passes_at, there}
use Rattle.muen_num.proofs.Options.{is_some-option_map}
use Rattle.muen_num.proofs.SearchLaws.{all_pass}
use Rattle.policy_lawful.specs.MoreRules.{offence_12, sources_of, targets_of}
use Rattle.policy_lawful.specs.Offences.{alone}
use Rattle.policy_lawful.specs.Resolution.{IsResolved, Resolution, name_at, source_of, subject_named, subject_in_range}
use Rattle.policy_lawful.specs.declared.resolved.EventTarget.{EventTarget}
use Rattle.policy_lawful.specs.declared.resolved.Subject.{Subject}
use Rattle.policy_lawful.proofs.Indexes.{found_at_index, same_name}
use Rattle.policy_lawful.proofs.SourceElements.{parts_in_range}
use Rattle.policy_lawful.proofs.UniqueNames.{unique, event_names}
use Rattle.policy_lawful.specs.Events.{Target, event_targets, named_event}
use Rattle.policy_lawful.specs.source.Event.{Event}
use Rattle.policy_lawful.specs.source.EventTarget.{EventTarget as NamedTarget}
use Rattle.policy_lawful.specs.source.Subject.{Subject as NamedSubject}
use Rattle.policy_lawful.proofs.WindowsByIndex.{name_there}
use Rattle.expand_grants.specs.Grants.{raised_named, target_named}
use Rattle.expand_grants.specs.Raising.{all_targets, entry, first_reached, subject_targets, target_reached}
use Rattle.expand_grants.specs.declared.granted.Way.{Way}
use Rattle.expand_grants.specs.declared.reached.Reached.{Reached}
use Rattle.expand_grants.proofs.Elements.{first_there, lengths_same}
use Rattle.expand_grants.proofs.FirstByIndex.{filtered, first_by_index}

-- a subject that is reached, by its name
abbrev pub reaches : Resolution → Reached → Target
reaches r x = target_named r x.subject x.vector

abbrev target_as : Resolution → EventTarget → NamedTarget
target_as r e = record { event = name_at (event_names r) e.event; vector = e.vector }

-- what an event reaches, and what is raised by that
raised_by : (r : Resolution) (way : Way) (e : Event) (o : Option Reached) → option_map (λ t. record { mode = e.mode; target = t }) (option_map (reaches r) o) ≡ option_map (raised_named r) (option_map (entry way e.mode) o)
raised_by r way e None = refl
raised_by r way e (Some x) = refl

module _ (r : Resolution) (q : IsResolved r) (k : ℕ) (within : k < length r.events) where
  same_event : (j : ℕ) → nat_lt j (length r.events) ≡ true → bytes_eq (name_at (event_names r) j) (name_at (event_names r) k) ≡ (j == k)
  unfolding source_of
  same_event j ok =
      let many : length (event_names r) ≡ length r.events = length-map r.events (λ x. x.name) in
      let here : j < length r.events = ltb-true j (length r.events) ok in
      same_name (event_names r) j k (unique (source_of r) q.names).events (omega (arith, many, here)) (omega (arith, many, within))

  of_subject : (index : ℕ) (s : Subject) → slice_get r.subjects index ≡ Some s → subject_in_range r s ≡ true
      → map (λ e. record { subject = s.name; vector = e.vector }) (filter (λ e. bytes_eq e.event (name_at (event_names r) k)) (subject_named r s).targets)
      ≡ map (reaches r) (filter (λ x. x.by == k) (subject_targets (index, s)))
  of_subject index s at h =
      filtered (λ e. bytes_eq e.event (name_at (event_names r) k)) (target_as r) (λ (x : Reached). x.by == k) (target_reached index)
      (λ e. record { subject = s.name; vector = e.vector }) (reaches r) (λ e. nat_lt e.event (length r.events))
      (λ e ok. same_event e.event ok)
      (λ e. ap (λ n. record { subject = n; vector = e.vector }) (sym (name_there (λ s. s.name) r.subjects index s at)))
      s.targets (and_parts _ _ (and_parts _ _ h).0).1

  -- the first target of the event at an index
  pub first_target : slice_get (event_targets (source_of r) (name_at (event_names r) k)) 0 ≡ option_map (reaches r) (first_reached (all_targets r.subjects) k)
  unfolding source_of
  first_target =
      first_by_index (λ t. map (λ e. record { subject = t.name; vector = e.vector }) (filter (λ e. bytes_eq e.event (name_at (event_names r) k)) t.targets))
      (subject_named r) (λ (x : Reached). x.by == k) subject_targets (reaches r) (subject_in_range r) r.subjects
      (λ index s at h. of_subject index s at h) (parts_in_range r q.in_range).subjects

  -- the event at an index, by its name
  pub event_by_index : (way : Way) → named_event (source_of r) (name_at (event_names r) k)
      ≡ option_map (raised_named r) (option_and_then (λ e. option_map (entry way e.mode) (first_reached (all_targets r.subjects) k)) (slice_get r.events k))
  unfolding source_of
  event_by_index way =
      let at = there r.events k within in
      ap (option_and_then (λ (e : Event). option_map (λ t. record { mode = e.mode; target = t }) (slice_get (event_targets (source_of r) (name_at (event_names r) k)) 0)))
      (found_at_index (λ x. x.name) r.events k (unique (source_of r) q.names).events within ∙ at.1)
      ∙ ap (option_map (λ t. record { mode = at.0.mode; target = t })) first_target
      ∙ raised_by r way at.0 (first_reached (all_targets r.subjects) k)
      ∙ ap (λ o. option_map (raised_named r) (option_and_then (λ (e : Event). option_map (entry way e.mode) (first_reached (all_targets r.subjects) k)) o)) (sym at.1)

  -- it has a target
  pub some_target : offence_12 (source_of r) ≡ None → is_some (first_reached (all_targets r.subjects) k) ≡ true
  unfolding source_of offence_12
  some_target lawful =
      let p = source_of r in
      let at = there r.events k within in
      let name = name_at (event_names r) k in
      let named : name ≡ at.0.name = name_there (λ x. x.name) r.events k at.0 at.1 in
      let each = all_pass (λ e. nat_le 1 (length (sources_of p e.name)) && (length (targets_of p e.name) == 1)) (λ e. alone e.name) r.events lawful in
      let here = passes_at (λ (e : Event). nat_le 1 (length (sources_of p e.name)) && (length (targets_of p e.name) == 1)) r.events k at.0 each at.1 in
      let one : (length (targets_of p name) == 1) ≡ true = ap (λ n. length (targets_of p n) == 1) named ∙ (and_parts (nat_le 1 (length (sources_of p at.0.name))) (length (targets_of p at.0.name) == 1) here).1 in
      let by_name : (s : NamedSubject) → length (map (λ e. s.name) (filter (λ e. bytes_eq e.event name) s.targets)) ≡ length (map (λ (e : NamedTarget). record { subject = s.name; vector = e.vector }) (filter (λ e. bytes_eq e.event name) s.targets)) = λ s.
      length-map (filter (λ e. bytes_eq e.event name) s.targets) (λ e. s.name) ∙ sym (length-map (filter (λ e. bytes_eq e.event name) s.targets) (λ (e : NamedTarget). record { subject = s.name; vector = e.vector })) in
      let same : length (targets_of p name) ≡ length (event_targets p name) =
      lengths_same (λ (s : NamedSubject). map (λ e. s.name) (filter (λ e. bytes_eq e.event name) s.targets)) (λ s. map (λ e. record { subject = s.name; vector = e.vector }) (filter (λ e. bytes_eq e.event name) s.targets)) by_name p.subjects in
      sym (is_some-option_map (reaches r) (first_reached (all_targets r.subjects) k)) ∙ ap is_some (sym first_target) ∙ first_there (targets_of p name) (event_targets p name) same one
