-- The ports that the source policy grants to a subject are those by indexes, and their numbers fit.
use Rattle.std.proofs.Common.{◌≡◌, ℕ, ◌<◌, ◌^◌, true, List, [], ◌∷◌, ◌++◌, length, map, Some, None, refl, sym, ap, ◌∙◌, arith}
use Rattle.std.specs.Prelude.{◌&&◌, nat_le, nat_lt, option_and_then, option_map, slice_get}
use Rattle.std.specs.Option.{option_map_or}
use Rattle.std.specs.List.{find, flat_map, list_all}
use Rattle.std.specs.Str.{bytes_eq}
use Rattle.std.proofs.lemmas.Bool.{and_from, and_parts, leb-true, lt-ltb, ltb-true}
use Rattle.std.proofs.lemmas.List.{length-map}
use Rattle.std.proofs.lemmas.List.Concat.{flat_map-cons}
use Rattle.std.proofs.lemmas.List.Folds.{list_all-append}
use Rattle.muen_num.specs.Search.{first_after, first_in, unless}
use Rattle.muen_num.specs.declared.limits.TheConstants.{LAST_PORT}
use Rattle.muen_num.proofs.Lists.{there}
use Rattle.muen_num.proofs.SearchLaws.{none_both, unless_none}
use Rattle.policy_lawful.specs.MoreRules.{offence_10, ports_apart, ports_offence}
use Rattle.policy_lawful.specs.Offences.{alone, two}
use Rattle.policy_lawful.specs.Resolution.{IsResolved, Resolution, device_named, device_part, device_in_range, name_at, source_of, subject_named, subject_in_range}
use Rattle.policy_lawful.specs.declared.resolved.DeviceUse.{DeviceUse}
use Rattle.policy_lawful.specs.declared.resolved.Subject.{Subject}
use Rattle.policy_lawful.proofs.Indexes.{found_at_index}
use Rattle.policy_lawful.proofs.UniqueNames.{parts_unique, unique}
use Rattle.policy_lawful.specs.source.Device.{Device}
use Rattle.policy_lawful.specs.source.Ports.{Ports}
use Rattle.policy_lawful.proofs.WindowsByIndex.{subject_parts}
use Rattle.expand_grants.specs.ByIndex.{fits_device, fits_ports, range_at, ranges_at}
use Rattle.expand_grants.specs.Resources.{device_ranges, port_ranges_of, port_range_of}
use Rattle.expand_grants.proofs.Mapped.{filter_maps_same, flat_maps_same}

-- ---- by name or by index

module _ (r : Resolution) (q : IsResolved r) where
  -- the device at an index, by its name
  pub device_found : (k : ℕ) → k < length r.devices → find (λ x. bytes_eq x.name (name_at (map (λ x. x.name) r.devices) k)) r.devices ≡ slice_get r.devices k
  unfolding source_of
  device_found k l = found_at_index (λ x. x.name) r.devices k (unique (source_of r) q.names).devices l

  -- the range at an index of a device that is there
  range_by_index : (device index : ℕ) (d : Device) → slice_get r.devices device ≡ Some d → nat_lt index (length (map (λ m. m.name) d.io_ports)) ≡ true
      → option_map port_range_of (find (λ x. bytes_eq x.name (name_at (map (λ m. m.name) d.io_ports) index)) d.io_ports) ≡ range_at r.devices device index
  unfolding source_of
  range_by_index device index d is l =
      let many : length (map (λ m. m.name) d.io_ports) ≡ length d.io_ports = length-map d.io_ports (λ m. m.name) in
      let here : index < length (map (λ m. m.name) d.io_ports) = ltb-true index (length (map (λ m. m.name) d.io_ports)) l in
      ap (option_map port_range_of) (found_at_index (λ x. x.name) d.io_ports index (parts_unique (source_of r) device d q.names is).io_ports (omega (arith, many, here)))
      ∙ ap (option_and_then (λ d. option_map port_range_of (slice_get d.io_ports index))) (sym is)

  -- the ranges of a use of a device
  pub ranges_by_index : (used : DeviceUse) → device_in_range r used ≡ true → device_ranges (source_of r) (device_named r used) ≡ ranges_at r.devices used
  unfolding source_of
  ranges_by_index used h =
      let b = and_parts _ _ h in
      let c = and_parts _ _ b.0 in
      let d = and_parts _ _ c.0 in
      let l : used.device < length r.devices = ltb-true used.device (length r.devices) d.0 in
      let at = there r.devices used.device l in
      let names : device_part r (λ x. map (λ m. m.name) x.io_ports) used.device ≡ map (λ m. m.name) at.0.io_ports = ap (λ o. option_map_or (λ (x : Device). map (λ m. m.name) x.io_ports) o []) at.1 in
      let found = device_found used.device l ∙ at.1 in
      filter_maps_same (λ name. option_and_then (λ (x : Device). option_map port_range_of (find (λ x. bytes_eq x.name name) x.io_ports)) (find (λ x. bytes_eq x.name (device_named r used).device) r.devices))
      (name_at (device_part r (λ x. map (λ m. m.name) x.io_ports) used.device))
      (range_at r.devices used.device)
      (λ i. nat_lt i (length (device_part r (λ x. map (λ m. m.name) x.io_ports) used.device)))
      (λ i small.
      ap (option_and_then (λ (x : Device). option_map port_range_of (find (λ y. bytes_eq y.name (name_at (device_part r (λ x. map (λ m. m.name) x.io_ports) used.device) i)) x.io_ports))) found
      ∙ ap (λ ns. option_map port_range_of (find (λ y. bytes_eq y.name (name_at ns i)) at.0.io_ports)) names
      ∙ range_by_index used.device i at.0 at.1 (sym (ap (λ ns. nat_lt i (length ns)) names) ∙ small))
      used.io_ports c.1

-- the ranges of a subject
pub ports_by_index : (r : Resolution) (s : Subject) → IsResolved r → subject_in_range r s ≡ true → port_ranges_of (source_of r) (subject_named r s) ≡ flat_map (ranges_at r.devices) s.devices
unfolding port_ranges_of
ports_by_index r s q h =
    flat_maps_same (device_ranges (source_of r)) (device_named r) (ranges_at r.devices) (device_in_range r) (λ used l. ranges_by_index r q used l) s.devices (subject_parts r s h).devices

-- ---- numbers that fit

fit : (x : Ports) → (nat_le x.start x.end && nat_le x.end LAST_PORT) ≡ true → fits_ports x ≡ true
fit x h =
    let parts = and_parts (nat_le x.start x.end) (nat_le x.end LAST_PORT) h in
    let a = leb-true x.start x.end parts.0 in
    let b = leb-true x.end LAST_PORT parts.1 in
    and_from (nat_lt x.start (2 ^ 16)) (nat_lt x.end (2 ^ 16)) (lt-ltb x.start (2 ^ 16) (omega (arith, a, b))) (lt-ltb x.end (2 ^ 16) (omega (arith, b)))

all_fit : (before xs : List Ports) → first_after ports_offence before xs ≡ None → list_all fits_ports xs ≡ true
all_fit before [] h = refl
all_fit before (x ∷ xs) h =
    let both = none_both (ports_offence before x) (first_after ports_offence (before ++ x ∷ []) xs) h in
    let own = none_both (unless (nat_le x.start x.end && nat_le x.end LAST_PORT) (alone x.name)) (first_in (λ b. unless (ports_apart b x) (two b.name x.name)) before) both.0 in
    and_from (fits_ports x) (list_all fits_ports xs) (fit x (unless_none _ _ own.0)) (all_fit (before ++ x ∷ []) xs both.1)

each_fits : (ds : List Device) → list_all fits_ports (flat_map (λ d. d.io_ports) ds) ≡ true → list_all fits_device ds ≡ true
each_fits [] h = refl
each_fits (d ∷ ds) h =
    let parts = and_parts (list_all fits_ports d.io_ports) (list_all fits_ports (flat_map (λ d. d.io_ports) ds))
    (sym (list_all-append fits_ports d.io_ports (flat_map (λ d. d.io_ports) ds)) ∙ ap (list_all fits_ports) (sym (flat_map-cons (λ d. d.io_ports) d ds)) ∙ h) in
    and_from (fits_device d) (list_all fits_device ds) parts.0 (each_fits ds parts.1)

pub ports_fit : (r : Resolution) → offence_10 (source_of r) ≡ None → list_all fits_device r.devices ≡ true
unfolding source_of offence_10
ports_fit r h = each_fits r.devices (all_fit [] (flat_map (λ d. d.io_ports) r.devices) h)
