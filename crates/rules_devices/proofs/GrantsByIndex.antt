-- Rule 9 of a resolved policy is that of its source policy: devices and their parts are told by their names or their indexes.
use Rattle.std.proofs.Common.{◌≡◌, ℕ, ◌+◌, ◌<◌, min, Bool, true, false, cond, List, [], ◌∷◌, length, map, Some, None, refl, sym, ap, ◌∙◌, arith}
use Rattle.std.specs.Prelude.{◌==◌, nat_le, nat_lt, slice_get, slice_index}
use Rattle.std.specs.Option.{option_map_or}
use Rattle.std.specs.List.{All, count_by, enumerate_from, filter, list_all, sum_by}
use Rattle.std.specs.Str.{bytes_eq}
use Rattle.std.proofs.lemmas.Bool.{and_parts, ltb-true}
use Rattle.std.proofs.lemmas.Bool.Decides.{Decides-eqb, nat_tests}
use Rattle.std.proofs.lemmas.List.{get_or-map, length-map}
use Rattle.std.proofs.lemmas.List.Elements.{All-weaker}
use Rattle.std.proofs.lemmas.List.Folds.{list_all-map}
use Rattle.std.proofs.lemmas.List.Sums.{AllPass-from_list_all, sum_by-cons}
use Rattle.std.proofs.lemmas.Option.{slice_get_within, get_or_from_slice_get}
use Rattle.muen_num.specs.Search.{first_in, unless}
use Rattle.muen_num.proofs.Lists.{map-map, sum_by-map}
use Rattle.muen_num.proofs.SameAnswers.{both_named, first_numbered_same, sum_by_same}
use Rattle.muen_num.proofs.SearchLaws.{first_over-map, option_or-None}
use Rattle.policy_lawful.specs.MoreRules.{device_offence, granted_once, offence_9, times_granted}
use Rattle.policy_lawful.specs.Offences.{two}
use Rattle.policy_lawful.specs.Resolution.{Resolution, IsResolved, device_named, device_part, device_in_range, name_at, source_of, subject_named, subject_in_range}
use Rattle.policy_lawful.specs.Rules.{repeated}
use Rattle.policy_lawful.specs.declared.resolved.DeviceUse.{DeviceUse}
use Rattle.policy_lawful.specs.declared.resolved.Subject.{Subject}
use Rattle.policy_lawful.proofs.Indexes.{same_name}
use Rattle.policy_lawful.proofs.SourceElements.{parts_in_range}
use Rattle.policy_lawful.proofs.UniqueNames.{devices_unique, parts_unique, unique}
use Rattle.policy_lawful.specs.source.Device.{Device}
use Rattle.policy_lawful.specs.source.DeviceUse.{DeviceUse as NamedUse}
use Rattle.policy_lawful.specs.Counts.{times_among}
use Rattle.rules_devices.specs.Grants.{AreGrantCounts, IsOnDevices, part_counted, counts_at, device_counted, indexes_granted, part_names, times_by_index, times_by_subject, times_by_use}
use Rattle.rules_devices.specs.declared.resource.Resource.{Resource}
use Rattle.rules_devices.specs.declared.resource.Resource.TheVariants.{Memory, IoPorts, Irqs}

-- ---- parts of a device

pub many_parts : (d : Device) → (length d.memory ≡ length (part_names Memory d)) × (length d.io_ports ≡ length (part_names IoPorts d)) × (length d.irqs ≡ length (part_names Irqs d))
many_parts d = (sym (length-map d.memory (λ m. m.name)), sym (length-map d.io_ports (λ x. x.name)), sym (length-map d.irqs (λ i. i.name)))

parts_of : (p : Resource) (r : Resolution) (k : ℕ) (d : Device) → IsResolved r → slice_get r.devices k ≡ Some d → repeated (part_names p d) ≡ None
unfolding source_of
parts_of Memory r k d h is = (parts_unique (source_of r) k d h.names is).memory
parts_of IoPorts r k d h is = (parts_unique (source_of r) k d h.names is).io_ports
parts_of Irqs r k d h is = (parts_unique (source_of r) k d h.names is).irqs

abbrev granted_names : Resource → NamedUse → List (List ℕ)
granted_names Memory u = map (λ m. m.memory) u.memory
granted_names IoPorts u = u.io_ports
granted_names Irqs u = map (λ i. i.irq) u.irqs

-- the names that stand for the indexes of a use
named_parts : (p : Resource) (r : Resolution) (u : DeviceUse) → granted_names p (device_named r u) ≡ map (name_at (device_part r (λ d. part_names p d) u.device)) (indexes_granted p u)
named_parts Memory r u =
    map-map (λ m. m.memory) (λ m. record { memory = name_at (device_part r (λ d. part_names Memory d) u.device) m.memory; virtual_address = m.virtual_address; rights = m.rights }) u.memory
    ∙ sym (map-map (name_at (device_part r (λ d. part_names Memory d) u.device)) (λ m. m.memory) u.memory)
named_parts IoPorts r u = refl
named_parts Irqs r u =
    map-map (λ i. i.irq) (λ i. record { irq = name_at (device_part r (λ d. part_names Irqs d) u.device) i.irq; vector = i.vector }) u.irqs
    ∙ sym (map-map (name_at (device_part r (λ d. part_names Irqs d) u.device)) (λ i. i.irq) u.irqs)

-- they are there
part_indexes_in_range : (p : Resource) (r : Resolution) (u : DeviceUse) → device_in_range r u ≡ true → list_all (λ i. nat_lt i (length (device_part r (λ d. part_names p d) u.device))) (indexes_granted p u) ≡ true
part_indexes_in_range Memory r u h =
    list_all-map (λ i. nat_lt i (length (device_part r (λ d. part_names Memory d) u.device))) (λ m. m.memory) u.memory ∙ (and_parts _ _ (and_parts _ _ (and_parts _ _ h).0).0).1
part_indexes_in_range IoPorts r u h = (and_parts _ _ (and_parts _ _ h).0).1
part_indexes_in_range Irqs r u h =
    list_all-map (λ i. nat_lt i (length (device_part r (λ d. part_names Irqs d) u.device))) (λ i. i.irq) u.irqs ∙ (and_parts _ _ h).1

-- ---- one use

part_at : (p : Resource) (r : Resolution) (k : ℕ) (d : Device) → slice_get r.devices k ≡ Some d → device_part r (λ d. part_names p d) k ≡ part_names p d
part_at p r k d is = ap (λ o. option_map_or (λ d. part_names p d) o []) is

same_count : (names : List (List ℕ)) (j : ℕ) (indexes : List ℕ) → repeated names ≡ None → j < length names → list_all (λ i. nat_lt i (length names)) indexes ≡ true
    → count_by (λ n. bytes_eq n (name_at names j)) (map (name_at names) indexes) ≡ times_among indexes j
same_count names j indexes unique within in_range =
    sum_by-map (λ n. cond (bytes_eq n (name_at names j)) 1 0) (name_at names) indexes
    ∙ sum_by_same (λ i. cond (bytes_eq (name_at names i) (name_at names j)) 1 0) (λ i. cond (i == j) 1 0) (λ i. nat_lt i (length names))
    (λ i ok. ap (λ b. cond b 1 0) (same_name names i j unique (ltb-true i (length names) ok) within)) indexes in_range

use_count : (p : Resource) (r : Resolution) (k j : ℕ) (d : Device) (u : DeviceUse) → IsResolved r → slice_get r.devices k ≡ Some d → j < length (part_names p d) → device_in_range r u ≡ true → u.device ≡ k
    → count_by (λ n. bytes_eq n (name_at (part_names p d) j)) (granted_names p (device_named r u)) ≡ times_among (indexes_granted p u) j
use_count p r k j d u h is within in_range on =
    let names : device_part r (λ d. part_names p d) u.device ≡ part_names p d = ap (device_part r (λ d. part_names p d)) on ∙ part_at p r k d is in
    let there : list_all (λ i. nat_lt i (length (part_names p d))) (indexes_granted p u) ≡ true =
    sym (ap (λ ns. list_all (λ i. nat_lt i (length ns)) (indexes_granted p u)) names) ∙ part_indexes_in_range p r u in_range in
    ap (count_by (λ n. bytes_eq n (name_at (part_names p d) j))) (named_parts p r u ∙ ap (λ ns. map (name_at ns) (indexes_granted p u)) names)
    ∙ same_count (part_names p d) j (indexes_granted p u) (parts_of p r k d h is) within there

-- ---- all uses of a subject

name_of_device : (r : Resolution) (k : ℕ) (d : Device) → slice_get r.devices k ≡ Some d → name_at (map (λ d. d.name) r.devices) k ≡ d.name
name_of_device r k d is =
    get_or-map (λ d. d.name) r.devices k d [] (slice_get_within r.devices k d is) ∙ ap (λ d. d.name) (get_or_from_slice_get r.devices k d d is)

-- a use is of the device by its name just where it is by its index
of_device : (r : Resolution) (k : ℕ) (d : Device) (u : DeviceUse) → IsResolved r → slice_get r.devices k ≡ Some d → device_in_range r u ≡ true → bytes_eq (device_named r u).device d.name ≡ (u.device == k)
of_device r k d u h is in_range =
    let names = map (λ (d : Device). d.name) r.devices in
    let many : length names ≡ length r.devices = length-map r.devices (λ d. d.name) in
    let there : u.device < length r.devices = ltb-true u.device (length r.devices) (and_parts _ _ (and_parts _ _ (and_parts _ _ in_range).0).0).0 in
    let here : k < length r.devices = slice_get_within r.devices k d is in
    ap (bytes_eq (name_at names u.device)) (sym (name_of_device r k d is))
    ∙ same_name names u.device k (devices_unique r h) (omega arith) (omega arith)

sum_kept : (f : NamedUse → ℕ) (b : Bool) (x : NamedUse) (xs : List NamedUse) → sum_by f (cond b (x ∷ xs) xs) ≡ cond b (f x) 0 + sum_by f xs
sum_kept f true x xs = sum_by-cons f x xs
sum_kept f false x xs = omega arith

where_true : (b : Bool) (m n : ℕ) → (b ≡ true → m ≡ n) → cond b m 0 ≡ cond b n 0
where_true true m n h = h refl
where_true false m n h = refl

uses_count : (p : Resource) (r : Resolution) (k j : ℕ) (d : Device) → IsResolved r → slice_get r.devices k ≡ Some d → j < length (part_names p d) → (us : List DeviceUse) → list_all (device_in_range r) us ≡ true
    → sum_by (λ u. count_by (λ n. bytes_eq n (name_at (part_names p d) j)) (granted_names p u)) (filter (λ u. bytes_eq u.device d.name) (map (device_named r) us)) ≡ sum_by (times_by_use p k j) us
uses_count p r k j d h is within [] all = refl
uses_count p r k j d h is within (u ∷ us) all =
    let parts = and_parts (device_in_range r u) (list_all (device_in_range r) us) all in
    let times : NamedUse → ℕ = λ u. count_by (λ n. bytes_eq n (name_at (part_names p d) j)) (granted_names p u) in
    let rest = filter (λ u. bytes_eq u.device d.name) (map (device_named r) us) in
    let one : cond (u.device == k) (times (device_named r u)) 0 ≡ cond (u.device == k) (times_among (indexes_granted p u) j) 0 =
    where_true (u.device == k) (times (device_named r u)) (times_among (indexes_granted p u) j)
    (λ e. use_count p r k j d u h is within parts.0 ((Decides-eqb u.device k).0 e)) in
    sum_kept times (bytes_eq (device_named r u).device d.name) (device_named r u) rest
    ∙ ap (λ b. cond b (times (device_named r u)) 0 + sum_by times rest) (of_device r k d u h is parts.0)
    ∙ ap (λ n. n + sum_by times rest) one
    ∙ ap (λ n. times_by_use p k j u + n) (uses_count p r k j d h is within us parts.1)
    ∙ sym (sum_by-cons (times_by_use p k j) u us)

-- ---- all subjects

subject_devices : (r : Resolution) (s : Subject) → subject_in_range r s ≡ true → list_all (device_in_range r) s.devices ≡ true
subject_devices r s h = (and_parts _ _ (and_parts _ _ (and_parts _ _ (and_parts _ _ h).0).0).0).1

same_times : (p : Resource) (r : Resolution) (k j : ℕ) (d : Device) → IsResolved r → slice_get r.devices k ≡ Some d → j < length (part_names p d)
    → times_granted (source_of r) d.name (λ u. granted_names p u) (name_at (part_names p d) j) ≡ times_by_index p r.subjects k j
unfolding source_of
same_times p r k j d h is within =
    let times : NamedUse → ℕ = λ u. count_by (λ n. bytes_eq n (name_at (part_names p d) j)) (granted_names p u) in
    sum_by-map (λ s. sum_by times (filter (λ u. bytes_eq u.device d.name) s.devices)) (subject_named r) r.subjects
    ∙ sum_by_same (λ s. sum_by times (filter (λ u. bytes_eq u.device d.name) (map (device_named r) s.devices))) (times_by_subject p k j) (subject_in_range r)
    (λ s in_range. uses_count p r k j d h is within s.devices (subject_devices r s in_range)) r.subjects (parts_in_range r h.in_range).subjects

-- ---- counts tell what is granted twice

once : (m n : ℕ) → min 2 m ≡ min 2 n → nat_le m 1 ≡ nat_le n 1
once m n h = grind (arith, nat_tests)

same_part : (p : Resource) (r : Resolution) (table : List (List ℕ)) (k : ℕ) (d : Device) → IsResolved r → AreGrantCounts p r.devices r.subjects table → slice_get r.devices k ≡ Some d
    → first_in (granted_once (source_of r) d (λ u. granted_names p u)) (part_names p d) ≡ first_in (part_counted table k d.name) (enumerate_from 0 (part_names p d))
same_part p r table k d h times is =
    first_numbered_same (granted_once (source_of r) d (λ u. granted_names p u)) (part_counted table k d.name) 0 (part_names p d) (λ j name at.
    let within : j < length (part_names p d) = slice_get_within (part_names p d) j name at in
    let named : name ≡ name_at (part_names p d) j = sym (get_or_from_slice_get (part_names p d) j name [] at) in
    let count = same_times p r k j d h is within in
    let number : 0 + j ≡ j = omega arith in
    ap (λ n. unless (nat_le (times_granted (source_of r) d.name (λ u. granted_names p u) n) 1) (two d.name name)) named
    ∙ ap (λ n. unless (nat_le n 1) (two d.name name)) count
    ∙ ap (λ b. unless b (two d.name name)) (once (times_by_index p r.subjects k j) (slice_index (counts_at table k) j) (sym (times k d is j within)))
    ∙ ap (λ i. part_counted table k d.name (i, name)) (sym number))

same_memory : (r : Resolution) (table : List (List ℕ)) (k : ℕ) (d : Device) → IsResolved r → AreGrantCounts Memory r.devices r.subjects table → slice_get r.devices k ≡ Some d
    → first_in (λ x. granted_once (source_of r) d (λ u. map (λ m. m.memory) u.memory) x.name) d.memory ≡ first_in (λ x. part_counted table k d.name (x.0, x.1.name)) (enumerate_from 0 d.memory)
same_memory r table k d h times is =
    sym (first_over-map (λ m. m.name) (granted_once (source_of r) d (λ u. map (λ m. m.memory) u.memory)) d.memory)
    ∙ same_part Memory r table k d h times is
    ∙ both_named (part_counted table k d.name) (λ x. part_counted table k d.name (x.0, x.1.name)) (λ m. m.name) (λ j x. refl) d.memory

same_ports : (r : Resolution) (table : List (List ℕ)) (k : ℕ) (d : Device) → IsResolved r → AreGrantCounts IoPorts r.devices r.subjects table → slice_get r.devices k ≡ Some d
    → first_in (λ x. granted_once (source_of r) d (λ u. u.io_ports) x.name) d.io_ports ≡ first_in (λ x. part_counted table k d.name (x.0, x.1.name)) (enumerate_from 0 d.io_ports)
same_ports r table k d h times is =
    sym (first_over-map (λ x. x.name) (granted_once (source_of r) d (λ u. u.io_ports)) d.io_ports)
    ∙ same_part IoPorts r table k d h times is
    ∙ both_named (part_counted table k d.name) (λ x. part_counted table k d.name (x.0, x.1.name)) (λ x. x.name) (λ j x. refl) d.io_ports

same_irqs : (r : Resolution) (table : List (List ℕ)) (k : ℕ) (d : Device) → IsResolved r → AreGrantCounts Irqs r.devices r.subjects table → slice_get r.devices k ≡ Some d
    → first_in (λ x. granted_once (source_of r) d (λ u. map (λ i. i.irq) u.irqs) x.name) d.irqs ≡ first_in (λ x. part_counted table k d.name (x.0, x.1.name)) (enumerate_from 0 d.irqs)
same_irqs r table k d h times is =
    sym (first_over-map (λ i. i.name) (granted_once (source_of r) d (λ u. map (λ i. i.irq) u.irqs)) d.irqs)
    ∙ same_part Irqs r table k d h times is
    ∙ both_named (part_counted table k d.name) (λ x. part_counted table k d.name (x.0, x.1.name)) (λ i. i.name) (λ j x. refl) d.irqs

-- ---- rule 9

same_device : (r : Resolution) (memory io_ports irqs : List (List ℕ)) (k : ℕ) (d : Device) → IsResolved r → AreGrantCounts Memory r.devices r.subjects memory → AreGrantCounts IoPorts r.devices r.subjects io_ports → AreGrantCounts Irqs r.devices r.subjects irqs
    → slice_get r.devices k ≡ Some d → device_offence (source_of r) d ≡ device_counted memory io_ports irqs (0 + k, d)
same_device r memory io_ports irqs k d h a b c is =
    let number : 0 + k ≡ k = omega arith in
    let first = same_memory r memory k d h a is in
    let second = same_ports r io_ports k d h b is in
    let third = same_irqs r irqs k d h c is in
    let same : device_offence (source_of r) d ≡ device_counted memory io_ports irqs (k, d) = simp (first, second, third, option_or-None) in
    same ∙ ap (λ i. device_counted memory io_ports irqs (i, d)) (sym number)

pub grants_by_index : (r : Resolution) (memory io_ports irqs : List (List ℕ)) → IsResolved r → AreGrantCounts Memory r.devices r.subjects memory → AreGrantCounts IoPorts r.devices r.subjects io_ports → AreGrantCounts Irqs r.devices r.subjects irqs
    → first_in (device_counted memory io_ports irqs) (enumerate_from 0 r.devices) ≡ offence_9 (source_of r)
unfolding offence_9 source_of
grants_by_index r memory io_ports irqs h a b c =
    sym (first_numbered_same (device_offence (source_of r)) (device_counted memory io_ports irqs) 0 r.devices (λ k d is. same_device r memory io_ports irqs k d h a b c is))

-- each use is of a device
pub uses_on_devices : (r : Resolution) → IsResolved r → All (IsOnDevices (length r.devices)) r.subjects
uses_on_devices r h =
    All-weaker (λ s. subject_in_range r s ≡ true) (IsOnDevices (length r.devices)) (λ s in_range.
    All-weaker (λ u. device_in_range r u ≡ true) (λ u. u.device < length r.devices)
    (λ u ok. ltb-true u.device (length r.devices) (and_parts _ _ (and_parts _ _ (and_parts _ _ ok).0).0).0) s.devices
    (AllPass-from_list_all (device_in_range r) s.devices (subject_devices r s in_range))) r.subjects
    (AllPass-from_list_all (subject_in_range r) r.subjects (parts_in_range r h.in_range).subjects)
