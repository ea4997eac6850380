-- The devices of the image that is made keep the conditions of an image.
use Rattle.std.proofs.Common.{◌≡◌, ◌∙◌, refl, sym, ap, subst, arith, ℕ, zero, suc, ◌+◌, ◌<◌, ◌≤◌, true, List, [], ◌∷◌, length, map, Some}
use Rattle.std.specs.Prelude.{◌&&◌, nat_le, option_and_then, option_map, slice_get}
use Rattle.std.specs.List.{All, AllZip, list_all}
use Rattle.std.proofs.lemmas.Bool.{and_parts, leb-true}
use Rattle.std.proofs.lemmas.List.{length-map}
use Rattle.std.proofs.lemmas.List.Elements.{All-cons, All-nil}
use Rattle.std.proofs.lemmas.Option.{same_Some, slice_get-map, slice_get_within}
use Rattle.std.proofs.lemmas.Slice.Zip.{AllZip-long}
use Rattle.image_soundness.specs.TablesOf.{AreDevices, IsDevice as IsDeviceFrom, IsIrq as IsIrqFrom, ports_ends, span_ends}
use Rattle.image_emit.proofs.ByNumber.{span_found}
use Rattle.image_emit.proofs.ConditionsOfPlan.{subjects_many}
use Rattle.image_emit.proofs.NamesDiffer.{names_differ}
use Rattle.policy_lawful.proofs.KeptLimits.{has_few_parts, limits_kept}
use Rattle.policy_lawful.proofs.KeptPorts.{ports_kept}
use Rattle.policy_lawful.specs.Ranges.{is_port_range}
use Rattle.image_emit.proofs.PlanDevices.{memory_there}
use Rattle.image_soundness.proofs.DevicesOf.{irqs_named}
use Rattle.image_emit.specs.Made.{IsMade, Made, image_of, policy_of, subject_parts}
use Rattle.image_pack.specs.Image.{device_name, window_name}
use Rattle.image_pack.specs.ImageConditions.{AreDistinct, IsDevicePart, IsIrqPart, IsRange, IsWindow}
use Rattle.image_pack.specs.declared.parts.DevicePart.{DevicePart}
use Rattle.image_pack.specs.declared.parts.IrqPart.{IrqPart}
use Rattle.muen_num.specs.declared.devices.PortSpan.{PortSpan}
use Rattle.image_pack.specs.declared.parts.SpanPart.{SpanPart}
use Rattle.image_pack.specs.declared.parts.WindowPart.{WindowPart}
use Rattle.muen_num.proofs.NumbersBelow.{length_numbers, number_at}
use Rattle.muen_num.proofs.Lists.{get_left, get_right, passes_at}
use Rattle.muen_num.proofs.Options.{from_some}
use Rattle.muen_num.proofs.Pairs.{zip_from}
use Rattle.muen_num.specs.Naming.{is_name}
use Rattle.muen_num.specs.Range.{numbers_below}
use Rattle.muen_num.specs.declared.limits.TheConstants.{LAST_PORT, MOST_PER_DEVICE}
use Rattle.policy_lawful.proofs.KeptRules.{rules_of}
use Rattle.policy_lawful.proofs.UniqueNames.{UniqueParts, parts_unique, unique}
use Rattle.policy_lawful.specs.Resolution.{Resolution, source_of}
use Rattle.policy_lawful.specs.source.Device.{Device}
use Rattle.policy_lawful.specs.source.DeviceMemory.{DeviceMemory}
use Rattle.policy_lawful.specs.source.Irq.{Irq}
use Rattle.policy_lawful.specs.source.Ports.{Ports}
use Rattle.span_emit.specs.Spans.{device_span}
use Rattle.policy_lawful.specs.ByIndex.{memories_of}
use Rattle.span_emit.specs.SpansOf.{spans_of}

-- ---- lists

-- and of one
all_from_indexes : {X : Type 0} (P : X → Type 0) (xs : List X) → ((k : ℕ) (x : X) → slice_get xs k ≡ Some x → P x) → All P xs
all_from_indexes P [] h = All-nil P
all_from_indexes P (x ∷ xs) h = All-cons P x xs (h 0 x refl) (all_from_indexes P xs (λ k y e. h (suc k) y e))

-- ---- ports

range_kept : (p : PortSpan) (x : Ports) → span_ends p ≡ ports_ends x → is_port_range x ≡ true → IsRange p
range_kept p x same h =
    let parts = and_parts (nat_le x.start x.end) (nat_le x.end LAST_PORT) h in
    let some : x.start ≤ x.end = leb-true x.start x.end parts.0 in
    let last : x.end ≤ 65535 = leb-true x.end LAST_PORT parts.1 in
    let start : p.start ≡ x.start = ap (λ (e : ℕ × ℕ). e.0) same in
    let end : p.end ≡ x.end = ap (λ (e : ℕ × ℕ). e.1) same in
    record { some = omega (arith, some, start, end); last = omega (arith, last, end) }

ranges_kept : (ps : List PortSpan) (xs : List Ports) → map span_ends ps ≡ map ports_ends xs → list_all is_port_range xs ≡ true → All IsRange ps
ranges_kept [] xs same h = All-nil IsRange
ranges_kept (p ∷ ps) [] same h = absurd (cc)
ranges_kept (p ∷ ps) (x ∷ xs) same h =
    let parts = and_parts (is_port_range x) (list_all is_port_range xs) h in
    let here : span_ends p ≡ ports_ends x = cc in
    let rest : map span_ends ps ≡ map ports_ends xs = cc in
    All-cons IsRange p ps (range_kept p x here parts.0) (ranges_kept ps xs rest parts.1)

-- ---- interrupts

irqs_kept : (r : Resolution) (n : ℕ) (d : Device) (is : List Irq) (qs : List IrqPart) → length r.subjects ≡ n → AllZip (IsIrqFrom r d) is qs → list_all (λ i. is_name i.name) is ≡ true → All (IsIrqPart n) qs
irqs_kept r n d [] [] many are named = All-nil (IsIrqPart n)
irqs_kept r n d [] (q ∷ qs) many are named = absurd are
irqs_kept r n d (i ∷ is) [] many are named = absurd are
irqs_kept r n d (i ∷ is) (q ∷ qs) many are named =
    let parts = and_parts (is_name i.name) (list_all (λ i. is_name i.name) is) named in
    All-cons (IsIrqPart n) q qs
    (subst (λ k. IsIrqPart k q) many (record { called = ap is_name are.0.name ∙ parts.0; reached = are.0.granted }))
    (irqs_kept r n d is qs many are.1 parts.1)

-- ---- devices by their indexes

-- the spans have the memory of these in turn, from a number on
abbrev HaveMemory : List SpanPart → ℕ → List (List ℕ × DeviceMemory) → Type 0
HaveMemory spans first xs = (k : ℕ) (x : List ℕ × DeviceMemory) → slice_get xs k ≡ Some x → slice_get spans (first + k) ≡ Some (device_span (first + k, x))

abbrev named_memory : Device → List (List ℕ × DeviceMemory)
named_memory d = map (λ m. (d.name, m)) d.memory

-- a device of the policy at an index, and what is known of that of the image
record HasDevice (r : Resolution) (spans : List SpanPart) (ds : List Device) (j : ℕ) (q : DevicePart) : Type 0 where
  device : Device
  there : slice_get ds j ≡ Some device
  first : ℕ
  is : IsDeviceFrom r first device q
  memory : HaveMemory spans first (named_memory device)

device_at : (r : Resolution) (spans : List SpanPart) (first : ℕ) (ds : List Device) (qs : List DevicePart) → AreDevices r first ds qs → HaveMemory spans first (memories_of ds)
    → (j : ℕ) (q : DevicePart) → slice_get qs j ≡ Some q → HasDevice r spans ds j q
unfolding AreDevices
device_at r spans first [] [] are has j q at = absurd (cc)
device_at r spans first [] (p ∷ ps) are has j q at = absurd are
device_at r spans first (d ∷ ds) [] are has j q at = absurd are
device_at r spans first (d ∷ ds) (p ∷ ps) are has zero q at =
    let same : p ≡ q = cc in
    record {
      device = d;
      there = refl;
      first = first;
      is = subst (IsDeviceFrom r first d) same are.0;
      memory = λ k x e. has k x (get_left (named_memory d) (memories_of ds) k (slice_get_within (named_memory d) k x e) ∙ e);
    }
device_at r spans first (d ∷ ds) (p ∷ ps) are has (suc j) q at =
    let many : length (named_memory d) ≡ length d.memory = length-map d.memory (λ m. (d.name, m)) in
    let later = device_at r spans (first + length d.memory) ds ps are.1
    (λ k x e.
    let n : first + (length (named_memory d) + k) ≡ first + length d.memory + k = omega (arith, many) in
    subst (λ n. slice_get spans n ≡ Some (device_span (n, x))) n (has (length (named_memory d) + k) x (get_right (named_memory d) (memories_of ds) k ∙ e)))
    j q at in
    record { device = later.device; there = later.there; first = later.first; is = later.is; memory = later.memory }

names_of_devices : (r : Resolution) (first : ℕ) (ds : List Device) (qs : List DevicePart) → AreDevices r first ds qs → map (λ q. q.name) qs ≡ map (λ d. d.name) ds
unfolding AreDevices
names_of_devices r first [] [] are = refl
names_of_devices r first [] (q ∷ qs) are = absurd are
names_of_devices r first (d ∷ ds) [] are = absurd are
names_of_devices r first (d ∷ ds) (q ∷ qs) are =
    ap (λ n. n ∷ map (λ q. q.name) qs) are.0.name ∙ ap (λ ns. d.name ∷ ns) (names_of_devices r (first + length d.memory) ds qs are.1)

module _ (m : Made) (h : IsMade m) where
  -- ---- a device

  module _ (j : ℕ) (q : DevicePart) (d : Device) (first : ℕ) (at : slice_get (policy_of m).devices j ≡ Some d) (is : IsDeviceFrom (policy_of m) first d q) (has : HaveMemory (spans_of m.placed) first (named_memory d)) where
    few : has_few_parts d ≡ true
    unfolding source_of
    few = passes_at has_few_parts (policy_of m).devices j d (limits_kept (source_of (policy_of m)) (rules_of h.lawful).rule_20).device_parts at

    ranges : list_all is_port_range d.io_ports ≡ true
    unfolding source_of
    ranges = passes_at (λ d. list_all is_port_range d.io_ports) (policy_of m).devices j d (ports_kept (source_of (policy_of m)) (rules_of h.lawful).rule_10) at

    parts_differ : UniqueParts d
    unfolding source_of
    parts_differ = parts_unique (source_of (policy_of m)) j d h.resolved.names at

    named : (is_name d.name && list_all (λ i. is_name i.name) d.irqs) ≡ true
    named = passes_at (λ d. is_name d.name && list_all (λ i. is_name i.name) d.irqs) (policy_of m).devices j d h.devices_named at

    ports_many : length q.ports ≡ length d.io_ports
    ports_many = sym (length-map q.ports span_ends) ∙ ap length is.ports ∙ length-map d.io_ports ports_ends

    windows_many : length q.windows ≡ length d.memory
    windows_many =
        sym (length-map q.windows (λ w. w.span))
        ∙ ap length is.windows
        ∙ length-map (numbers_below (length d.memory)) (λ k. first + k)
        ∙ length_numbers (length d.memory)

    -- the number of the span of the window at an index
    number_of : (k : ℕ) (w : WindowPart) → slice_get q.windows k ≡ Some w → w.span ≡ first + k
    number_of k w there =
        let l = slice_get_within q.windows k w there in
        let low : k < length d.memory = omega (arith, l, windows_many) in
        same_Some w.span (first + k)
        (sym (slice_get-map (λ (w : WindowPart). w.span) q.windows k ∙ ap (option_map (λ (w : WindowPart). w.span)) there)
        ∙ ap (λ ns. slice_get ns k) is.windows
        ∙ slice_get-map (λ n. first + n) (numbers_below (length d.memory)) k
        ∙ ap (option_map (λ n. first + n)) (number_at (length d.memory) k low))

    window_kept : (k : ℕ) (w : WindowPart) (text : List ℕ) → slice_get q.windows k ≡ Some w → slice_get (map (λ x. x.name) d.memory) k ≡ Some text → IsWindow m.spans w text
    unfolding window_name
    window_kept k w text there named =
        let x = from_some (λ (x : DeviceMemory). x.name) (slice_get d.memory k) text (sym (slice_get-map (λ (x : DeviceMemory). x.name) d.memory k) ∙ named) in
        let e : List ℕ × DeviceMemory = (d.name, x.0) in
        let mine : slice_get (named_memory d) k ≡ Some e = slice_get-map (λ (x : DeviceMemory). (d.name, x)) d.memory k ∙ ap (option_map (λ (x : DeviceMemory). (d.name, x))) x.1 in
        ap (λ n. window_name m.spans n) (number_of k w there)
        ∙ ap (option_and_then device_name) (span_found m h (first + k) (device_span (first + k, e)) (has k e mine))
        ∙ ap Some x.2

    is_device : IsDevicePart (image_of m) q
    unfolding image_of
    is_device =
        let all = and_parts (nat_le (length d.memory) MOST_PER_DEVICE && nat_le (length d.io_ports) MOST_PER_DEVICE) (nat_le (length d.irqs) MOST_PER_DEVICE) few in
        let both = and_parts (nat_le (length d.memory) MOST_PER_DEVICE) (nat_le (length d.io_ports) MOST_PER_DEVICE) all.0 in
        let memories : length d.memory ≤ 16 = leb-true (length d.memory) MOST_PER_DEVICE both.0 in
        let ports : length d.io_ports ≤ 16 = leb-true (length d.io_ports) MOST_PER_DEVICE both.1 in
        let irqs : length d.irqs ≤ 16 = leb-true (length d.irqs) MOST_PER_DEVICE all.1 in
        let irqs_many : length q.irqs ≡ length d.irqs = AllZip-long (IsIrqFrom (policy_of m) d) d.irqs q.irqs is.irqs in
        let names = and_parts (is_name d.name) (list_all (λ i. is_name i.name) d.irqs) named in
        record {
          called = ap is_name is.name ∙ names.0;
          few_ports = omega (arith, ports, ports_many);
          few_windows = omega (arith, memories, windows_many);
          few_irqs = omega (arith, irqs, irqs_many);
          ports = ranges_kept q.ports d.io_ports is.ports ranges;
          names = map (λ x. x.name) d.memory;
          windows = zip_from (IsWindow m.spans) q.windows (map (λ x. x.name) d.memory) (windows_many ∙ sym (length-map d.memory (λ x. x.name))) window_kept;
          windows_differ = names_differ (map (λ x. x.name) d.memory) parts_differ.memory;
          irqs = irqs_kept (policy_of m) (length (subject_parts m)) d d.irqs q.irqs (sym (subjects_many m h)) is.irqs names.1;
          irqs_differ = subst AreDistinct (sym (irqs_named (policy_of m) d d.irqs q.irqs is.irqs)) (names_differ (map (λ i. i.name) d.irqs) parts_differ.irqs);
        }

  -- **the devices** of the image
  pub devices_kept : All (IsDevicePart (image_of m)) (image_of m).devices
  unfolding image_of
  devices_kept =
      all_from_indexes (IsDevicePart (image_of m)) m.devices
      (λ j q at.
      let of = device_at (policy_of m) (spans_of m.placed) (length m.placed.expanded.regions) (policy_of m).devices m.devices h.devices (memory_there m h) j q at in
      is_device j q of.device of.first of.there of.is of.memory)

  -- their names differ
  pub names_kept : AreDistinct (map (λ d. d.name) (image_of m).devices)
  unfolding image_of source_of
  names_kept =
      subst AreDistinct (sym (names_of_devices (policy_of m) (length m.placed.expanded.regions) (policy_of m).devices m.devices h.devices))
      (names_differ (map (λ d. d.name) (policy_of m).devices) (unique (source_of (policy_of m)) h.resolved.names).devices)
