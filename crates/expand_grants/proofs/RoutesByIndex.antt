-- Where interrupts of devices go, by names and by indexes.
use Rattle.std.proofs.Common.{◌≡◌, ℕ, ◌+◌, ◌<◌, ◌≤◌, Bool, true, false, List, [], ◌∷◌, length, map, Option, Some, None, refl, sym, ap, subst, ◌∙◌, true≢false, arith}
use Rattle.std.specs.Prelude.{◌==◌, ◌&&◌, filter, nat_le, nat_lt, slice_get}
use Rattle.std.specs.Option.{option_map_or}
use Rattle.std.specs.List.{count_by, enumerate_from, flat_map, list_all}
use Rattle.std.specs.Str.{bytes_eq}
use Rattle.std.proofs.lemmas.Bool.{and_from, and_parts, eqb-true, false_from_ne_true, leb-true, ltb-true}
use Rattle.std.proofs.lemmas.List.{length-map}
use Rattle.std.proofs.lemmas.List.Concat.{flat_map-cons}
use Rattle.std.proofs.lemmas.List.Folds.{list_all-append, list_all-map}
use Rattle.std.proofs.lemmas.List.Sums.{length-filter}
use Rattle.muen_num.proofs.Lists.{each_from, passes_at, there}
use Rattle.policy_lawful.specs.Lawful.{IsLawful}
use Rattle.policy_lawful.specs.MoreRules.{offence_9, times_granted}
use Rattle.policy_lawful.specs.Resolution.{IsResolved, Resolution, device_named, device_part, device_in_range, name_at, source_of, subject_named, subject_in_range}
use Rattle.policy_lawful.specs.declared.resolved.DeviceUse.{DeviceUse}
use Rattle.policy_lawful.specs.declared.resolved.IrqUse.{IrqUse}
use Rattle.policy_lawful.specs.declared.resolved.Subject.{Subject}
use Rattle.policy_lawful.proofs.EachPasses.{all_flat}
use Rattle.policy_lawful.proofs.Indexes.{same_name}
use Rattle.policy_lawful.proofs.KeptRules.{rules_of}
use Rattle.policy_lawful.proofs.SourceElements.{parts_in_range}
use Rattle.policy_lawful.proofs.UniqueNames.{parts_unique, unique}
use Rattle.policy_lawful.specs.Events.{Target, irq_of}
use Rattle.policy_lawful.specs.source.Device.{Device}
use Rattle.policy_lawful.specs.source.Irq.{Irq}
use Rattle.policy_lawful.specs.source.IrqUse.{IrqUse as NamedIrq}
use Rattle.policy_lawful.proofs.WindowsByIndex.{name_there, subject_parts, within_names}
use Rattle.expand_grants.specs.ByIndex.{all_routes, device_routes, route, subject_routes}
use Rattle.expand_grants.specs.Grants.{AreRoutes, is_interrupt, is_route_of, routed, target_named}
use Rattle.expand_grants.specs.declared.granted.Route.{Route}
use Rattle.expand_grants.proofs.Counted.{none_passes, uncounted}
use Rattle.expand_grants.proofs.FirstByIndex.{all_by_index, filtered, first_found, flat_filtered}
use Rattle.expand_grants.proofs.GrantedOnce.{irqs_once, irqs_used, reached_by, reached_counted}

abbrev irq_names : Resolution → ℕ → List (List ℕ)
irq_names r device = device_part r (λ x. map (λ m. m.name) x.irqs) device

abbrev irq_named : Resolution → ℕ → IrqUse → NamedIrq
irq_named r device i = record { irq = name_at (irq_names r device) i.irq; vector = i.vector }

-- the subject and vector of a route, by the subject's name
abbrev goes : Resolution → Route → Target
goes r t = target_named r t.subject (Some t.vector)

module _ (r : Resolution) (q : IsResolved r) (device irq : ℕ) (d : Device) (i : Irq) (is : slice_get r.devices device ≡ Some d) (in_it : slice_get d.irqs irq ≡ Some i) where
  same_device : (k : ℕ) → nat_lt k (length r.devices) ≡ true → bytes_eq (name_at (map (λ x. x.name) r.devices) k) d.name ≡ (k == device)
  unfolding source_of
  same_device k ok =
      let many : length (map (λ x. x.name) r.devices) ≡ length r.devices = length-map r.devices (λ x. x.name) in
      let here : k < length r.devices = ltb-true k (length r.devices) ok in
      ap (bytes_eq (name_at (map (λ x. x.name) r.devices) k)) (sym (name_there (λ x. x.name) r.devices device d is))
      ∙ same_name (map (λ x. x.name) r.devices) k device (unique (source_of r) q.names).devices (omega (arith, many, here)) (within_names (λ x. x.name) r.devices device d is)

  same_irq : (k : ℕ) → nat_lt k (length (map (λ m. m.name) d.irqs)) ≡ true → bytes_eq (name_at (map (λ m. m.name) d.irqs) k) i.name ≡ (k == irq)
  unfolding source_of
  same_irq k ok =
      ap (bytes_eq (name_at (map (λ m. m.name) d.irqs) k)) (sym (name_there (λ x. x.name) d.irqs irq i in_it))
      ∙ same_name (map (λ m. m.name) d.irqs) k irq (parts_unique (source_of r) device d q.names is).irqs (ltb-true k (length (map (λ m. m.name) d.irqs)) ok) (within_names (λ x. x.name) d.irqs irq i in_it)

  -- the names of interrupts are those of the device, where that is this one
  names_here : (k : ℕ) → (k == device) ≡ true → irq_names r k ≡ map (λ m. m.name) d.irqs
  names_here k h = ap (irq_names r) (eqb-true k device h) ∙ ap (λ o. option_map_or (λ (x : Device). map (λ m. m.name) x.irqs) o []) is

  same_both : (k : ℕ) → nat_lt k (length r.devices) ≡ true → (u : IrqUse) → nat_lt u.irq (length (irq_names r k)) ≡ true
      → (bytes_eq (name_at (map (λ x. x.name) r.devices) k) d.name && bytes_eq (name_at (irq_names r k) u.irq) i.name) ≡ ((k == device) && (u.irq == irq))
  same_both k ok u small =
      ap (λ b. b && bytes_eq (name_at (irq_names r k) u.irq) i.name) (same_device k ok)
      ∙ elim (k == device) as (λ b. (k == device) ≡ b → (b && bytes_eq (name_at (irq_names r k) u.irq) i.name) ≡ (b && (u.irq == irq))) [
        | true ↦ λ h.
            let names = names_here k h in
            ap (λ ns. bytes_eq (name_at ns u.irq) i.name) names ∙ same_irq u.irq (ap (λ ns. nat_lt u.irq (length ns)) (sym names) ∙ small)
        | false ↦ λ _. refl
      ] refl

  abbrev is_wanted : Route → Bool
  is_wanted t = is_route_of device irq t

  -- of what a subject is granted of a device
  of_use : (index : ℕ) (name : List ℕ) → name_at (map (λ s. s.name) r.subjects) index ≡ name → (used : DeviceUse) → device_in_range r used ≡ true
      → map (λ x. record { subject = name; vector = Some x.vector }) (filter (λ x. bytes_eq (device_named r used).device d.name && bytes_eq x.irq i.name) (device_named r used).irqs)
      ≡ map (goes r) (filter is_wanted (device_routes index used))
  of_use index name at used h =
      let b = and_parts _ _ h in
      let c = and_parts _ _ b.0 in
      let e = and_parts _ _ c.0 in
      filtered (λ x. bytes_eq (device_named r used).device d.name && bytes_eq x.irq i.name) (irq_named r used.device) is_wanted (route index used.device)
      (λ x. record { subject = name; vector = Some x.vector }) (goes r) (λ x. nat_lt x.irq (length (irq_names r used.device)))
      (λ x small. same_both used.device e.0 x small)
      (λ x. ap (λ n. record { subject = n; vector = Some x.vector }) (sym at))
      used.irqs b.1

  of_subject : (index : ℕ) (s : Subject) → slice_get r.subjects index ≡ Some s → subject_in_range r s ≡ true
      → flat_map (λ u. map (λ x. record { subject = (subject_named r s).name; vector = Some x.vector }) (filter (λ x. bytes_eq u.device d.name && bytes_eq x.irq i.name) u.irqs)) (subject_named r s).devices
      ≡ map (goes r) (filter is_wanted (subject_routes (index, s)))
  of_subject index s at h =
      flat_filtered (λ u. map (λ x. record { subject = s.name; vector = Some x.vector }) (filter (λ x. bytes_eq u.device d.name && bytes_eq x.irq i.name) u.irqs)) (device_named r)
      is_wanted (device_routes index) (goes r) (device_in_range r)
      (λ used ok. of_use index s.name (name_there (λ s. s.name) r.subjects index s at) used ok)
      s.devices (subject_parts r s h).devices

  -- whom the interrupt reaches by names, once for each time that it is granted, is whom its routes reach
  reached_by_index : flat_map (reached_by d.name i.name) (source_of r).subjects ≡ map (goes r) (filter is_wanted (all_routes r.subjects))
  unfolding source_of
  reached_by_index =
      all_by_index (reached_by d.name i.name) (subject_named r) is_wanted subject_routes (goes r) (subject_in_range r) r.subjects
      (λ k s at h. of_subject k s at h) (parts_in_range r q.in_range).subjects

  irq_by_index : routed r (all_routes r.subjects) device irq ≡ irq_of (source_of r) d.name i.name
  unfolding irq_of
  irq_by_index = sym (ap (λ ts. slice_get ts 0) reached_by_index ∙ first_found is_wanted (goes r) (all_routes r.subjects))

  granted_few : offence_9 (source_of r) ≡ None → times_granted (source_of r) d.name irqs_used i.name ≤ 1
  unfolding source_of
  granted_few lawful =
      leb-true (times_granted (source_of r) d.name irqs_used i.name) 1
      (passes_at (λ (i : Irq). nat_le (times_granted (source_of r) d.name irqs_used i.name) 1) d.irqs irq i
      (passes_at (λ (d : Device). list_all (λ (i : Irq). nat_le (times_granted (source_of r) d.name irqs_used i.name) 1) d.irqs) r.devices device d (irqs_once (source_of r) lawful) is) in_it)

  -- it has one route at most
  irq_once : offence_9 (source_of r) ≡ None → count_by is_wanted (all_routes r.subjects) ≤ 1
  irq_once lawful =
      let count = length-filter is_wanted (all_routes r.subjects) in
      let goes_to = length-map (filter is_wanted (all_routes r.subjects)) (goes r) in
      let named = ap length reached_by_index in
      let granted = reached_counted d.name i.name (source_of r) in
      let few = granted_few lawful in
      omega (arith, count, goes_to, named, granted, few)

-- ---- interrupts that there are

-- a device with so many names of interrupts has this one
has_interrupt : (irq : ℕ) (o : Option Device) → nat_lt irq (length (option_map_or (λ (d : Device). map (λ m. m.name) d.irqs) o [])) ≡ true → option_map_or (λ (d : Device). nat_lt irq (length d.irqs)) o false ≡ true
has_interrupt irq None h = let low : irq < 0 = ltb-true irq 0 h in absurd (omega (arith, low))
has_interrupt irq (Some d) h = ap (nat_lt irq) (sym (length-map d.irqs (λ m. m.name))) ∙ h

module _ (r : Resolution) where
  abbrev is_there : Route → Bool
  is_there t = is_interrupt r t.device t.irq

  use_there : (index : ℕ) (used : DeviceUse) → device_in_range r used ≡ true → list_all is_there (device_routes index used) ≡ true
  use_there index used h =
      list_all-map is_there (route index used.device) used.irqs
      ∙ each_from (λ (x : IrqUse). nat_lt x.irq (length (irq_names r used.device))) (λ x. is_interrupt r used.device x.irq)
      (λ x low. has_interrupt x.irq (slice_get r.devices used.device) low) used.irqs (and_parts _ _ h).1

  subject_there : (index : ℕ) (s : Subject) → subject_in_range r s ≡ true → list_all is_there (subject_routes (index, s)) ≡ true
  subject_there index s h =
      all_flat is_there (device_routes index) s.devices
      ∙ each_from (device_in_range r) (λ used. list_all is_there (device_routes index used)) (λ used ok. use_there index used ok) s.devices (subject_parts r s h).devices

  all_there : (index : ℕ) (ss : List Subject) → list_all (subject_in_range r) ss ≡ true → list_all is_there (flat_map subject_routes (enumerate_from index ss)) ≡ true
  all_there index [] all = refl
  all_there index (s ∷ ss) all =
      let parts = and_parts (subject_in_range r s) (list_all (subject_in_range r) ss) all in
      let rest = flat_map subject_routes (enumerate_from (index + 1) ss) in
      ap (list_all is_there) (flat_map-cons subject_routes (index, s) (enumerate_from (index + 1) ss))
      ∙ list_all-append is_there (subject_routes (index, s)) rest
      ∙ and_from (list_all is_there (subject_routes (index, s))) (list_all is_there rest) (subject_there index s parts.0) (all_there (index + 1) ss parts.1)

  -- an interrupt that there isn't has no route
  none_elsewhere : (device irq : ℕ) → is_interrupt r device irq ≡ false → (t : Route) → is_there t ≡ true → is_route_of device irq t ≡ false
  none_elsewhere device irq absent t h =
      false_from_ne_true (is_route_of device irq t)
      (λ hit.
      let both = and_parts (t.device == device) (t.irq == irq) hit in
      let same : is_there t ≡ is_interrupt r device irq = (λ k. is_interrupt r (eqb-true t.device device both.0 k) (eqb-true t.irq irq both.1 k)) in
      true≢false (sym h ∙ same ∙ absent))

-- ---- all routes

module _ (r : Resolution) (q : IsResolved r) (lawful : IsLawful (source_of r)) where
  once : (device irq : ℕ) → count_by (λ t. is_route_of device irq t) (all_routes r.subjects) ≤ 1
  once device irq = by (is_interrupt r device irq) refl
    where
      there_is : (o : Option Device) → slice_get r.devices device ≡ o → option_map_or (λ (d : Device). nat_lt irq (length d.irqs)) o false ≡ true → count_by (λ t. is_route_of device irq t) (all_routes r.subjects) ≤ 1
      there_is None is h = absurd (cc)
      there_is (Some d) is h =
          let i = there d.irqs irq (ltb-true irq (length d.irqs) h) in
          irq_once r q device irq d i.0 is i.1 (rules_of lawful).rule_9

      by : (b : Bool) → is_interrupt r device irq ≡ b → count_by (λ t. is_route_of device irq t) (all_routes r.subjects) ≤ 1
      by true h = there_is (slice_get r.devices device) refl h
      by false h =
          let each = all_there r 0 r.subjects (parts_in_range r q.in_range).subjects in
          let none = uncounted (λ t. is_route_of device irq t) (all_routes r.subjects)
          (none_passes (is_there r) (λ t. is_route_of device irq t) (none_elsewhere r device irq h) (all_routes r.subjects) each) in
          omega (arith, none)

  all_are : AreRoutes r (all_routes r.subjects)
  all_are = record {
    each = λ device irq d i is in_it. irq_by_index r q device irq d i is in_it;
    once = once;
    there = all_there r 0 r.subjects (parts_in_range r q.in_range).subjects;
  }

  pub routes_by_index : (routes : List Route) → routes ≡ all_routes r.subjects → AreRoutes r routes
  routes_by_index routes same = subst (AreRoutes r) (sym same) all_are
