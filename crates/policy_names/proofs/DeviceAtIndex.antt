-- A device at its index, and the names of its parts.
use Rattle.std.proofs.Common.{◌≡◌, ℕ, ◌<◌, true, List, [], ◌∷◌, ◌++◌, length, map, Option, Some, None, refl, sym, ap, subst, ◌∙◌, arith}
use Rattle.std.specs.Prelude.{slice_get, nat_lt, option_map, Result}
use Rattle.std.specs.Option.{option_or, option_map_or}
use Rattle.std.specs.List.{find, list_all}
use Rattle.std.specs.Str.{bytes_eq}
use Rattle.std.proofs.lemmas.Bool.{and_from, ltb-true}
use Rattle.std.proofs.lemmas.List.{length-map}
use Rattle.std.proofs.lemmas.Option.{slice_get-get_or, slice_get-map}
use Rattle.muen_num.specs.Search.{first_in}
use Rattle.muen_num.proofs.SearchLaws.{first_in-append, first_over-map, option_or_assoc}
use Rattle.policy_lawful.specs.Keeps.{Keeps}
use Rattle.policy_lawful.specs.Offences.{broken}
use Rattle.policy_lawful.specs.Resolution.{device_in_range, device_named, name_at}
use Rattle.policy_lawful.specs.Rules.{Reference, device_references, offence_1, undeclared}
use Rattle.policy_lawful.proofs.Offences.{none_broken}
use Rattle.policy_lawful.proofs.Indexes.{found_at_index}
use Rattle.policy_lawful.proofs.UniqueNames.{unique as names_unique}
use Rattle.policy_lawful.specs.declared.resolved.DeviceMapping.{DeviceMapping as ResolvedMapping}
use Rattle.policy_lawful.specs.declared.resolved.DeviceUse.{DeviceUse as ResolvedUse}
use Rattle.policy_lawful.specs.declared.resolved.IrqUse.{IrqUse as ResolvedIrq}
use Rattle.policy_lawful.specs.refusal.Refusal.{Refusal}
use Rattle.policy_lawful.specs.source.Device.{Device}
use Rattle.policy_lawful.specs.source.DeviceUse.{DeviceUse}
use Rattle.policy_lawful.specs.source.Source.{Source}
use Rattle.policy_names.specs.DeviceParts.{PartsStand, parts_offence}
use Rattle.policy_names.specs.Outline.{bare_resolution}
use Rattle.policy_names.specs.Parts.{names_of_device}
use Rattle.policy_names.specs.Indexes.{StandsFor}
use Rattle.policy_names.specs.declared.parts.DeviceNames.{DeviceNames}
use Rattle.policy_names.proofs.Refusals.{keeps_as}

-- a part of what is there
part : (f : DeviceNames → List (List ℕ)) (o : Option Device) (names : DeviceNames) → option_map names_of_device o ≡ Some names → option_map_or (λ d. f (names_of_device d)) o [] ≡ f names
part f None names h = absurd (cc)
part f (Some d) names h = ap (λ o. option_map_or f o []) h

-- three lists of references, one after another
three : (by : List ℕ) (a b c : List Reference) → first_in (undeclared by) ((a ++ b) ++ c) ≡ option_or (first_in (undeclared by) a) (option_or (first_in (undeclared by) b) (first_in (undeclared by) c))
three by a b c =
    first_in-append (undeclared by) (a ++ b) c
    ∙ ap (λ o. option_or o (first_in (undeclared by) c)) (first_in-append (undeclared by) a b)
    ∙ option_or_assoc (first_in (undeclared by) a) (first_in (undeclared by) b) (first_in (undeclared by) c)

-- the device that is found by its name
device_found : (p : Source) (index : ℕ) (name : List ℕ) → offence_1 p ≡ None → StandsFor (name_at (map (λ d. d.name) p.devices)) (λ k. nat_lt k (length (map (λ d. d.name) p.devices))) name index
    → find (λ d. bytes_eq d.name name) p.devices ≡ slice_get p.devices index
device_found p index name h stands =
    let many : length (map (λ d. d.name) p.devices) ≡ length p.devices = length-map p.devices (λ d. d.name) in
    let within : index < length (map (λ d. d.name) p.devices) = ltb-true index (length (map (λ d. d.name) p.devices)) stands.there in
    ap (λ n. find (λ d. bytes_eq d.name n) p.devices) (sym stands.same)
    ∙ found_at_index (λ d. d.name) p.devices index (names_unique p h).devices (omega (arith, many, within))

pub ruleset there = (length-map, slice_get-get_or)

-- the names of a device at an index, which a use names, are those that its references are sought among
module _ (p : Source) (by : List ℕ) (d : DeviceUse) (index : ℕ) (names : DeviceNames)
    (unique : offence_1 p ≡ None)
    (stands : StandsFor (name_at (map (λ d. d.name) p.devices)) (λ k. nat_lt k (length (map (λ d. d.name) p.devices))) d.device index)
    (at : slice_get (map names_of_device p.devices) index ≡ Some names) where
  -- by their index
  at_index : option_map names_of_device (slice_get p.devices index) ≡ Some names
  at_index = sym (slice_get-map names_of_device p.devices index) ∙ at

  memory_at : option_map_or (λ d. map (λ m. m.name) d.memory) (slice_get p.devices index) [] ≡ names.memory
  memory_at = part (λ n. n.memory) (slice_get p.devices index) names at_index

  ports_at : option_map_or (λ d. map (λ x. x.name) d.io_ports) (slice_get p.devices index) [] ≡ names.io_ports
  ports_at = part (λ n. n.io_ports) (slice_get p.devices index) names at_index

  irqs_at : option_map_or (λ d. map (λ i. i.name) d.irqs) (slice_get p.devices index) [] ≡ names.irqs
  irqs_at = part (λ n. n.irqs) (slice_get p.devices index) names at_index

  -- and by the device's name
  found : find (λ x. bytes_eq x.name d.device) p.devices ≡ slice_get p.devices index
  found = device_found p index d.device unique stands

  -- the references of the use, one kind after another
  in_turn : first_in (undeclared by) (device_references p d) ≡ option_or (undeclared by (map (λ d. d.name) p.devices, d.device)) (parts_offence names by d)
  in_turn =
      let memory : option_map_or (λ d. map (λ m. m.name) d.memory) (find (λ x. bytes_eq x.name d.device) p.devices) [] ≡ names.memory = ap (λ o. option_map_or (λ (d : Device). map (λ m. m.name) d.memory) o []) found ∙ memory_at in
      let ports : option_map_or (λ d. map (λ x. x.name) d.io_ports) (find (λ x. bytes_eq x.name d.device) p.devices) [] ≡ names.io_ports = ap (λ o. option_map_or (λ (d : Device). map (λ x. x.name) d.io_ports) o []) found ∙ ports_at in
      let irqs : option_map_or (λ d. map (λ i. i.name) d.irqs) (find (λ x. bytes_eq x.name d.device) p.devices) [] ≡ names.irqs = ap (λ o. option_map_or (λ (d : Device). map (λ q. q.name) d.irqs) o []) found ∙ irqs_at in
      let device : Reference = (map (λ d. d.name) p.devices, d.device) in
      let by_names : first_in (undeclared by) (device_references p d) ≡ first_in (undeclared by) (device ∷ map (λ m. (names.memory, m.memory)) d.memory ++ map (λ x. (names.io_ports, x)) d.io_ports ++ map (λ q. (names.irqs, q.irq)) d.irqs) =
      λ i. first_in (undeclared by) (device ∷ map (λ m. (memory i, m.memory)) d.memory ++ map (λ x. (ports i, x)) d.io_ports ++ map (λ q. (irqs i, q.irq)) d.irqs) in
      by_names ∙ ap (option_or (undeclared by device)) (three by (map (λ m. (names.memory, m.memory)) d.memory) (map (λ x. (names.io_ports, x)) d.io_ports) (map (λ q. (names.irqs, q.irq)) d.irqs)
      ∙ rw (first_over-map (λ m. (names.memory, m.memory)) (undeclared by) d.memory, first_over-map (λ x. (names.io_ports, x)) (undeclared by) d.io_ports, first_over-map (λ q. (names.irqs, q.irq)) (undeclared by) d.irqs) refl)

  -- the use with indexes stands for it
  use_stands : (r : ResolvedUse) → PartsStand names index d r → StandsFor (device_named (bare_resolution p)) (device_in_range (bare_resolution p)) d r
  use_stands r parts =
      let many : length (map (λ d. d.name) p.devices) ≡ length p.devices = length-map p.devices (λ d. d.name) in
      let within : nat_lt r.device (length p.devices) ≡ true = ap (λ k. nat_lt k (length p.devices)) parts.device ∙ ap (nat_lt index) (sym many) ∙ stands.there in
      let device : name_at (map (λ d. d.name) p.devices) r.device ≡ d.device = ap (name_at (map (λ d. d.name) p.devices)) parts.device ∙ stands.same in
      let memory : option_map_or (λ d. map (λ m. m.name) d.memory) (slice_get p.devices r.device) [] ≡ names.memory = ap (λ k. option_map_or (λ (d : Device). map (λ m. m.name) d.memory) (slice_get p.devices k) []) parts.device ∙ memory_at in
      let ports : option_map_or (λ d. map (λ x. x.name) d.io_ports) (slice_get p.devices r.device) [] ≡ names.io_ports = ap (λ k. option_map_or (λ (d : Device). map (λ x. x.name) d.io_ports) (slice_get p.devices k) []) parts.device ∙ ports_at in
      let irqs : option_map_or (λ d. map (λ q. q.name) d.irqs) (slice_get p.devices r.device) [] ≡ names.irqs = ap (λ k. option_map_or (λ (d : Device). map (λ q. q.name) d.irqs) (slice_get p.devices k) []) parts.device ∙ irqs_at in
      let windows : map (λ m. record { memory = name_at (option_map_or (λ d. map (λ m. m.name) d.memory) (slice_get p.devices r.device) []) m.memory; virtual_address = m.virtual_address; rights = m.rights }) r.memory ≡ d.memory =
      ap (λ (n : List (List ℕ)). map (λ (m : ResolvedMapping). record { memory = name_at n m.memory; virtual_address = m.virtual_address; rights = m.rights }) r.memory) memory ∙ parts.memory.same in
      let ranges : map (name_at (option_map_or (λ d. map (λ x. x.name) d.io_ports) (slice_get p.devices r.device) [])) r.io_ports ≡ d.io_ports =
      ap (λ (n : List (List ℕ)). map (name_at n) r.io_ports) ports ∙ parts.io_ports.same in
      let lines : map (λ q. record { irq = name_at (option_map_or (λ d. map (λ q. q.name) d.irqs) (slice_get p.devices r.device) []) q.irq; vector = q.vector }) r.irqs ≡ d.irqs =
      ap (λ (n : List (List ℕ)). map (λ (q : ResolvedIrq). record { irq = name_at n q.irq; vector = q.vector }) r.irqs) irqs ∙ parts.irqs.same in
      let windows_there = subst (λ (n : List (List ℕ)). list_all (λ (m : ResolvedMapping). nat_lt m.memory (length n)) r.memory ≡ true) (sym memory) parts.memory.there in
      let ranges_there = subst (λ (n : List (List ℕ)). list_all (λ x. nat_lt x (length n)) r.io_ports ≡ true) (sym ports) parts.io_ports.there in
      let lines_there = subst (λ (n : List (List ℕ)). list_all (λ (q : ResolvedIrq). nat_lt q.irq (length n)) r.irqs ≡ true) (sym irqs) parts.irqs.there in
      record {
        same = λ i. record { device = device i; memory = windows i; io_ports = ranges i; irqs = lines i };
        there = and_from _ _ (and_from _ _ (and_from _ _ within windows_there) ranges_there) lines_there;
      }

  -- so what is told of its parts tells all of it
  pub resolved : (result : Result ResolvedUse Refusal) → broken 2 (undeclared by (map (λ d. d.name) p.devices, d.device)) ≡ None
      → Keeps (broken 2 (parts_offence names by d)) (PartsStand names index d) result
      → Keeps (broken 2 (first_in (undeclared by) (device_references p d))) (StandsFor (device_named (bare_resolution p)) (device_in_range (bare_resolution p)) d) result
  resolved result declared keeps =
      let same : broken 2 (first_in (undeclared by) (device_references p d)) ≡ broken 2 (parts_offence names by d) =
      ap (broken 2) in_turn ∙ ap (λ o. broken 2 (option_or o (parts_offence names by d))) (none_broken 2 (undeclared by (map (λ d. d.name) p.devices, d.device)) declared) in
      keeps_as (PartsStand names index d) (StandsFor (device_named (bare_resolution p)) (device_in_range (bare_resolution p)) d) (broken 2 (parts_offence names by d)) (broken 2 (first_in (undeclared by) (device_references p d))) same use_stands result keeps
