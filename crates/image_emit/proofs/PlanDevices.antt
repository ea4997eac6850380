-- The devices of the image that is made are the policy's.
use Rattle.std.proofs.Common.{◌≡◌, ◌∙◌, sym, ap, subst, arith, ℕ, ◌+◌, ◌*◌, ◌/◌, ◌%◌, List, [], ◌∷◌, ◌++◌, length, map, Option, Some}
use Rattle.std.specs.Prelude.{option_and_then, option_map, slice_get}
use Rattle.std.specs.List.{All, AllZip, enumerate_from, filter_map}
use Rattle.std.proofs.lemmas.List.{length-map}
use Rattle.std.proofs.lemmas.Option.{get_or_from_slice_get, slice_get-map, slice_get_within}
use Rattle.image_soundness.proofs.DevicesOf.{irqs_named}
use Rattle.image_soundness.specs.TablesOf.{AreDevices, IsDevice, IsIrq}
use Rattle.image_emit.proofs.AtIndexes.{looked_up, none_missing}
use Rattle.image_emit.proofs.ByNumber.{region_spans_length, span_numbered}
use Rattle.image_emit.proofs.PlanSubjects.{same_reached}
use Rattle.image_emit.specs.Made.{IsMade, Made, content_at, image_of, policy_of}
use Rattle.image_soundness.specs.Memory.{span_at}
use Rattle.image_soundness.specs.Named.{bench_device, tag_at, window_memory}
use Rattle.image_soundness.specs.Sound.{IsDeviceOf, IsIrqOf}
use Rattle.image_soundness.specs.Targets.{target_index}
use Rattle.image_pack.specs.Codes.{part_name}
use Rattle.image_pack.specs.declared.parts.DevicePart.{DevicePart}
use Rattle.image_pack.specs.declared.parts.Image.{Image}
use Rattle.image_pack.specs.declared.parts.IrqPart.{IrqPart}
use Rattle.image_pack.specs.declared.parts.WindowPart.{WindowPart}
use Rattle.muen_num.proofs.Lists.{get_left, get_right, map-map, numbered_at}
use Rattle.muen_num.specs.Range.{numbers_below}
use Rattle.muen_num.specs.declared.limits.TheConstants.{PAGE}
use Rattle.policy_lawful.specs.Resolution.{Resolution, source_of}
use Rattle.policy_lawful.specs.Thing.{device_memory, thing_tag}
use Rattle.policy_lawful.specs.source.Device.{Device as SourceDevice}
use Rattle.policy_lawful.specs.source.DeviceMemory.{DeviceMemory}
use Rattle.policy_lawful.specs.source.Irq.{Irq}
use Rattle.policy_lawful.proofs.KeptAddresses.{IsPhysical}
use Rattle.policy_lawful.proofs.KeptRules.{rules_of}
use Rattle.span_emit.proofs.KeptDevices.{devices_physical}
use Rattle.span_emit.specs.Spans.{device_span, device_spans, region_spans}
use Rattle.policy_lawful.specs.ByIndex.{memories_of}
use Rattle.span_emit.specs.SpansOf.{spans_of}
use Rattle.image_soundness.specs.Bench.{bench_device as device_of}

-- ---- memory

-- by this number the image has the span of a device's memory
record HasMemory (i : Image) (n : ℕ) (x : List ℕ × DeviceMemory) : Type 0 where
  bytes : List ℕ
  is : span_at i n ≡ Some (device_span (n, x), bytes)
  whole : x.1.size % PAGE ≡ 0

-- from this number on, it has those of all of these in turn
abbrev HasMemories : Image → ℕ → List (List ℕ × DeviceMemory) → Type 0
HasMemories i first xs = (k : ℕ) (x : List ℕ × DeviceMemory) → slice_get xs k ≡ Some x → HasMemory i (first + k) x

-- of each device, with its name
abbrev named_memory : SourceDevice → List (List ℕ × DeviceMemory)
named_memory d = map (λ m. (d.name, m)) d.memory

pub kept_memories : (m : Made) → IsMade m → All (λ x. IsPhysical x.1) (memories_of (policy_of m).devices)
unfolding source_of
kept_memories m h = devices_physical (source_of (policy_of m)) (rules_of h.lawful).rule_4

-- by number, the memory of all devices stands behind the regions
pub memory_there : (m : Made) → IsMade m → (k : ℕ) (x : List ℕ × DeviceMemory) → slice_get (memories_of (policy_of m).devices) k ≡ Some x
    → slice_get (spans_of m.placed) (length m.placed.expanded.regions + k) ≡ Some (device_span (length m.placed.expanded.regions + k, x))
unfolding spans_of
memory_there m h k x at =
    let first = length m.placed.expanded.regions in
    let devices = (policy_of m).devices in
    let front = region_spans m.placed.expanded.regions m.placed.addresses in
    let back = device_spans first devices in
    let many : length front ≡ first = region_spans_length m h in
    ap (λ n. slice_get (front ++ back) (n + k)) (sym many)
    ∙ get_right front back k
    ∙ slice_get-map device_span (enumerate_from first (memories_of devices)) k
    ∙ ap (option_map device_span) (numbered_at first (memories_of devices) k x at)

-- the image has it
has_memories : (m : Made) → IsMade m → HasMemories (image_of m) (length m.placed.expanded.regions) (memories_of (policy_of m).devices)
has_memories m h k x at =
    let n = length m.placed.expanded.regions + k in
    let within = slice_get_within (memories_of (policy_of m).devices) k x at in
    let physical : IsPhysical x.1 =
    subst (λ (y : List ℕ × DeviceMemory). IsPhysical y.1) (get_or_from_slice_get (memories_of (policy_of m).devices) k x x at) (kept_memories m h k x within) in
    record {
      bytes = content_at m (device_span (n, x));
      is = span_numbered m h n (device_span (n, x)) (memory_there m h k x at);
      whole = physical.pages;
    }

-- ---- a device

module _ (i : Image) (first : ℕ) (d : SourceDevice) (q : DevicePart) (r : Resolution) (is : IsDevice r first d q) (has : HasMemories i first (named_memory d)) where
  -- what stands for each memory stands for each window
  by_window : {Y : Type 0} (look : ℕ → Y) (f : List ℕ × DeviceMemory → Y) → ((n : ℕ) (x : List ℕ × DeviceMemory) → HasMemory i n x → look n ≡ f x)
      → map (λ w. look w.span) q.windows ≡ map (λ m. f (d.name, m)) d.memory
  by_window look f tells =
      let span : WindowPart → ℕ = λ w. w.span in
      let name : DeviceMemory → List ℕ × DeviceMemory = λ m. (d.name, m) in
      sym (map-map look span q.windows)
      ∙ ap (map look) is.windows
      ∙ map-map look (λ k. first + k) (numbers_below (length d.memory))
      ∙ looked_up (λ k. look (first + k)) (λ m. f (name m)) d.memory (λ k m at. tells (first + k) (name m) (has k (name m) (slice_get-map name d.memory k ∙ ap (option_map name) at)))

  memory_at : ℕ → Option (List ℕ × ℕ)
  memory_at n = option_and_then (λ e. option_map (λ text. (text, PAGE * e.0.pages)) (part_name e.0.tag.part)) (span_at i n)

  memory_is : (n : ℕ) (x : List ℕ × DeviceMemory) → HasMemory i n x → memory_at n ≡ Some (x.1.name, x.1.size)
  unfolding memory_at
  memory_is n x has =
      let whole = has.whole in
      let size : PAGE * (x.1.size / PAGE) ≡ x.1.size = omega (arith, whole) in
      ap (option_and_then (λ e. option_map (λ text. (text, PAGE * e.0.pages)) (part_name e.0.tag.part))) has.is ∙ ap (λ size. Some (x.1.name, size)) size

  memories_are : filter_map (window_memory i) q.windows ≡ map (λ m. (m.name, m.size)) d.memory
  unfolding memory_at
  memories_are = none_missing (window_memory i) (λ m. (m.name, m.size)) q.windows d.memory (by_window memory_at (λ x. Some (x.1.name, x.1.size)) memory_is)

  windows_are : map (λ w. tag_at i w.span) q.windows ≡ map (λ m. Some (thing_tag (device_memory d.name m.name))) d.memory
  windows_are = by_window (tag_at i) (λ x. Some (thing_tag (device_memory x.0 x.1.name))) (λ n x has. ap (option_map (λ e. e.0.tag)) has.is)

-- ---- all devices

bench_device_is : (i : Image) (first : ℕ) (d : SourceDevice) (q : DevicePart) (r : Resolution) → IsDevice r first d q → HasMemories i first (named_memory d) → bench_device i q ≡ device_of d
bench_device_is i first d q r is has =
    let name = is.name in
    let ports = is.ports in
    let memories = memories_are i first d q r is has in
    let irqs = irqs_named r d d.irqs q.irqs is.irqs in
    (λ t. record { name = name t; ports = ports t; memories = memories t; irqs = irqs t })

-- the memory of the first device, and that of the others
first_memory : (i : Image) (first : ℕ) (d : SourceDevice) (ds : List SourceDevice) → HasMemories i first (memories_of (d ∷ ds)) → HasMemories i first (named_memory d)
first_memory i first d ds has k x at =
    has k x (get_left (named_memory d) (memories_of ds) k (slice_get_within (named_memory d) k x at) ∙ at)

other_memory : (i : Image) (first : ℕ) (d : SourceDevice) (ds : List SourceDevice) → HasMemories i first (memories_of (d ∷ ds)) → HasMemories i (first + length d.memory) (memories_of ds)
other_memory i first d ds has k x at =
    let many : length (named_memory d) ≡ length d.memory = length-map d.memory (λ m. (d.name, m)) in
    let n : first + (length (named_memory d) + k) ≡ first + length d.memory + k = omega (arith, many) in
    subst (λ n. HasMemory i n x) n (has (length (named_memory d) + k) x (get_right (named_memory d) (memories_of ds) k ∙ at))

irqs_reach : (m : Made) → IsMade m → (d : SourceDevice) (irqs : List Irq) (parts : List IrqPart) → AllZip (IsIrq (policy_of m) d) irqs parts → AllZip (IsIrqOf (source_of (policy_of m)) d) irqs parts
irqs_reach m h d [] [] are = tt
irqs_reach m h d [] (q ∷ qs) are = absurd are
irqs_reach m h d (j ∷ js) [] are = absurd are
irqs_reach m h d (j ∷ js) (q ∷ qs) are =
    (same_reached m h q.target are.0.granted ∙ ap (option_map (target_index (source_of (policy_of m)))) are.0.target, irqs_reach m h d js qs are.1)

devices_are : (m : Made) → IsMade m → (first : ℕ) (ds : List SourceDevice) (qs : List DevicePart) → AreDevices (policy_of m) first ds qs → HasMemories (image_of m) first (memories_of ds)
    → AllZip (IsDeviceOf (source_of (policy_of m)) (image_of m)) ds qs
unfolding AreDevices
devices_are m h first [] [] are has = tt
devices_are m h first [] (q ∷ qs) are has = absurd are
devices_are m h first (d ∷ ds) [] are has = absurd are
devices_are m h first (d ∷ ds) (q ∷ qs) are has = (
  record {
    may = bench_device_is (image_of m) first d q (policy_of m) are.0 (first_memory (image_of m) first d ds has);
    windows = windows_are (image_of m) first d q (policy_of m) are.0 (first_memory (image_of m) first d ds has);
    irqs = irqs_reach m h d d.irqs q.irqs are.0.irqs;
  },
  devices_are m h (first + length d.memory) ds qs are.1 (other_memory (image_of m) first d ds has),
)

-- ---- of the policy

-- **the devices** of the image are the policy's
pub devices_of_policy : (m : Made) → IsMade m → AllZip (IsDeviceOf (source_of (policy_of m)) (image_of m)) (source_of (policy_of m)).devices (image_of m).devices
unfolding image_of source_of
devices_of_policy m h = devices_are m h (length m.placed.expanded.regions) (policy_of m).devices m.devices h.devices (has_memories m h)
