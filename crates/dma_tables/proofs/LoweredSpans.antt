-- What a lowered record writes lies in the spans.
use Rattle.std.proofs.Common.{◌≡◌, ◌∙◌, ◌-◌, ◌+◌, ◌*◌, ◌/◌, ◌%◌, ◌<◌, ◌≤◌, ◌^◌, ◌&&◌, ◌∷◌, if◌then◌else◌}
use Rattle.std.proofs.Common.{inl, inr, refl, sym, subst, ap, arith, ℕ, Bool, true, false, List, [], length, take, drop, Option, Some, None}
use Rattle.std.specs.Prelude.{nat_le, nat_lt, option_and_then, unwrap_or}
use Rattle.std.specs.List.{All, list_any, slice_get}
use Rattle.std.proofs.lemmas.Bool.{and_parts, cases_Bool, cases_lt, leb-true, ltb-true}
use Rattle.std.proofs.lemmas.List.{length-drop, length-take}
use Rattle.std.proofs.lemmas.List.Elements.{All-cons, All-nil}
use Rattle.muen_num.proofs.Members.{all_in, any_some}
use Rattle.muen_num.specs.declared.limits.TheConstants.{PAGE, PHYSICAL_END}
use Rattle.image_pack.specs.Parts.{IsParts}
use Rattle.image_pack.specs.SpanConditions.{end_of}
use Rattle.image_pack.specs.declared.parts.DevicePart.{DevicePart}
use Rattle.image_pack.specs.declared.parts.Image.{Image}
use Rattle.image_pack.specs.declared.parts.SpanPart.{SpanPart}
use Rattle.device_bench.specs.Devices.{IsLowEffect}
use Rattle.device_bench.specs.declared.effect.Effect.{Effect}
use Rattle.device_bench.specs.declared.effect.Effect.TheVariants.{Port as ToPort, Mem as ToMem, Irq as ToIrq}
use Rattle.record_text.specs.Law.{IsInputOf, IsLowWrite}
use Rattle.record_text.specs.declared.devices.Devices.{Devices}
use Rattle.record_text.specs.declared.devices.RecordDevice.{RecordDevice}
use Rattle.record_text.specs.declared.devices.RecordMemory.{RecordMemory}
use Rattle.record_text.specs.declared.record.Input.{Input}
use Rattle.record_text.specs.declared.record.Input.TheVariants.{Port, Mem, Irq, Idle, Dma}
use Rattle.record_text.specs.declared.record.TheConstants.{INPUT_MOST}
use Rattle.dma_tables.specs.LineWrites.{one_write, two_writes}
use Rattle.dma_tables.specs.Lowered.{goes, is_in_spans, is_line, left_in_page, line_writes, lowered_input}
use Rattle.dma_tables.specs.LoweredRecord.{AreInSpans, HaveMemoriesIn, IsEffectIn}
use Rattle.dma_tables.specs.declared.file.DmaFile.{DmaFile}
use Rattle.dma_tables.proofs.ByPages.{AreAligned, along, goes_by_page, goes_is, goes_page, landing_page, named_page, parts_aligned, parts_low, spans_page, spans_same}
use Rattle.dma_tables.proofs.Lines.{line_in_one, line_in_two, line_length, no_line}

-- ---- memories of devices

-- the memory of a device has so many bytes from an address on
abbrev has_bytes : ℕ → ℕ → RecordMemory → Bool
has_bytes at count m = nat_le m.address at && nat_le (at + count) (m.address + m.bytes)

-- all of it lies in the spans
abbrev IsWithin : List SpanPart → RecordMemory → Type 0
IsWithin spans m = AreInSpans spans m.address m.bytes

-- bytes of a memory that lies in the spans lie there
memory_has : (spans : List SpanPart) (at count : ℕ) (m : RecordMemory) → IsWithin spans m → has_bytes at count m ≡ true → AreInSpans spans at count
memory_has spans at count m lies h place low high =
    let two = and_parts (nat_le m.address at) (nat_le (at + count) (m.address + m.bytes)) h in
    let first : m.address ≤ at = leb-true m.address at two.0 in
    let last : at + count ≤ m.address + m.bytes = leb-true (at + count) (m.address + m.bytes) two.1 in
    lies place (omega (arith, first, low)) (omega (arith, last, high))

-- .. and so do bytes of a memory of some device, where all memories lie there
devices_have : (spans : List SpanPart) (at count : ℕ) (ds : List RecordDevice) → All (λ d. All (IsWithin spans) d.memories) ds
    → list_any (λ d. list_any (has_bytes at count) d.memories) ds ≡ true → AreInSpans spans at count
devices_have spans at count ds all h =
    let d = any_some (λ (d : RecordDevice). list_any (has_bytes at count) d.memories) ds h in
    let m = any_some (has_bytes at count) d.one.memories d.passes in
    let its = all_in (λ (d : RecordDevice). All (IsWithin spans) d.memories) ds all d.one d.within in
    memory_has spans at count m.one (all_in (IsWithin spans) d.one.memories its m.one m.within) m.passes

-- ---- the spans have all of a page or nothing of it

-- a page that is there
abbrev some_page : ℕ → Option ℕ
some_page n = Some n

-- a page that is chosen passes
chosen : (b : Bool) (spans : List SpanPart) (m n : ℕ) → (if b then some_page m else None) ≡ some_page n → is_in_spans spans (PAGE * m) ≡ b → is_in_spans spans (PAGE * n) ≡ true
chosen true spans m n e h = let same : m ≡ n = cc in subst (λ k. is_in_spans spans (PAGE * k) ≡ true) same h
chosen false spans m n e h = absurd cc

-- a page to which the spans lead is in them
page_in_spans : (spans : List SpanPart) (n : ℕ) (o : Option ℕ) → option_and_then (spans_page spans) o ≡ Some n → is_in_spans spans (PAGE * n) ≡ true
page_in_spans spans n None e = absurd cc
page_in_spans spans n (Some m) e = chosen (is_in_spans spans (PAGE * m)) spans m n e refl

-- .. so is one to which a device's page leads
of_device : (t : DmaFile) (spans : List SpanPart) (k n : ℕ) (o : Option DevicePart)
    → option_and_then (λ (d : DevicePart). landing_page t spans d.name k) o ≡ some_page n → is_in_spans spans (PAGE * n) ≡ true
of_device t spans k n None e = absurd cc
of_device t spans k n (Some d) e = page_in_spans spans n (named_page t d.name true k) e

-- .. by any tables
goes_in_spans : (t : Option DmaFile) (i : Image) (device k n : ℕ) → goes_page t i device k ≡ some_page n → is_in_spans i.spans (PAGE * n) ≡ true
goes_in_spans None i device k n e = absurd cc
goes_in_spans (Some t) i device k n e = of_device t i.spans k n (slice_get i.devices device) e

-- bytes of such a page lie in the spans
lies_along : (spans : List SpanPart) (n at count : ℕ) → AreAligned spans → is_in_spans spans (PAGE * n) ≡ true
    → PAGE * n ≤ at → at + count ≤ PAGE * n + PAGE → AreInSpans spans at count
lies_along spans n at count all h low high place from to =
    let r : ℕ = place - PAGE * n in
    let is : place ≡ PAGE * n + r = omega (arith, low, from) in
    ap (is_in_spans spans) is ∙ spans_same spans n r all (omega (arith, low, high, from, to)) ∙ h

-- ---- lines

-- what may be written from here on, if it goes anywhere: 1 to 64 bytes that lie in the spans
abbrev MayGo : List SpanPart → Option ℕ → List ℕ → Type 0
MayGo spans None bytes = Unit {0}
MayGo spans (Some at) bytes = AreInSpans spans at (length bytes) × (1 ≤ length bytes) × (length bytes ≤ INPUT_MOST)

-- a write of such bytes is one of the record
one_in : (devices : Devices) (spans : List SpanPart) (go : Option ℕ) (bytes : List ℕ) → MayGo spans go bytes → All (IsEffectIn devices spans) (one_write go bytes)
one_in devices spans None bytes may = All-nil (IsEffectIn devices spans)
one_in devices spans (Some at) bytes may = All-cons (IsEffectIn devices spans) (ToMem at bytes) [] may (All-nil (IsEffectIn devices spans))

-- .. and so are two
both_in : (devices : Devices) (spans : List SpanPart) (go next : Option ℕ) (front back : List ℕ) → MayGo spans go front → MayGo spans next back
    → All (IsEffectIn devices spans) (two_writes go front next back)
both_in devices spans None next front back may later = All-nil (IsEffectIn devices spans)
both_in devices spans (Some at) None front back may later = All-nil (IsEffectIn devices spans)
both_in devices spans (Some at) (Some to) front back may later =
    All-cons (IsEffectIn devices spans) (ToMem at front) (ToMem to back ∷ []) may
    (All-cons (IsEffectIn devices spans) (ToMem to back) [] later (All-nil (IsEffectIn devices spans)))

-- bytes in one page, where its page leads into the spans
goes_if : (spans : List SpanPart) (addr : ℕ) (bytes : List ℕ) (o : Option ℕ) → AreAligned spans → ((n : ℕ) → o ≡ some_page n → is_in_spans spans (PAGE * n) ≡ true)
    → 1 ≤ length bytes → length bytes ≤ INPUT_MOST → length bytes ≤ left_in_page addr → MayGo spans (along addr o) bytes
goes_if spans addr bytes None all h some few fits = tt
goes_if spans addr bytes (Some n) all h some few fits =
    (lies_along spans n (PAGE * n + addr % PAGE) (length bytes) all (h n refl) (omega arith) (omega (arith, fits)), some, few)

module _ (t : Option DmaFile) (i : Image) (devices : Devices) (aligned : AreAligned i.spans) where
  -- they are effects of a record of these devices and spans
  abbrev AreEffects : List Effect → Type 0
  AreEffects xs = All (IsEffectIn devices i.spans) xs

  -- there may be none
  none_in : AreEffects []
  none_in = All-nil (IsEffectIn devices i.spans)

  -- .. or one
  single_in : (x : Effect) → IsEffectIn devices i.spans x → AreEffects (x ∷ [])
  single_in x h = All-cons (IsEffectIn devices i.spans) x [] h none_in

  -- a device writes bytes in one page into the spans
  may_go : (device addr : ℕ) (bytes : List ℕ) → 1 ≤ length bytes → length bytes ≤ INPUT_MOST → length bytes ≤ left_in_page addr → MayGo i.spans (goes t i device addr) bytes
  may_go device addr bytes some few fits =
      subst (λ o. MayGo i.spans o bytes) (sym (goes_is t i device addr aligned))
      (goes_if i.spans addr bytes (goes_page t i device (addr / PAGE)) aligned (goes_in_spans t i device (addr / PAGE)) some few fits)

  -- a line that goes on in the next page
  two_in : (device addr : ℕ) (bytes : List ℕ) → left_in_page addr < length bytes → length bytes ≤ 64
      → AreEffects (two_writes (goes t i device addr) (take (left_in_page addr) bytes) (goes t i device (addr + left_in_page addr)) (drop (left_in_page addr) bytes))
  two_in device addr bytes long few =
      let n : ℕ = left_in_page addr in
      let front : length (take n bytes) ≡ n = omega (arith, long, length-take n bytes) in
      let back : length (drop n bytes) ≡ length bytes - n = omega (arith, length-drop n bytes) in
      both_in devices i.spans (goes t i device addr) (goes t i device (addr + n)) (take n bytes) (drop n bytes)
      (may_go device addr (take n bytes) (omega (arith, front)) (omega (arith, front, long, few)) (omega (arith, front)))
      (may_go device (addr + n) (drop n bytes) (omega (arith, back, long)) (omega (arith, back, few)) (omega (arith, back, few)))

  -- what a line writes lies in the spans
  pub line_in : (device addr : ℕ) (bytes : List ℕ) → AreEffects (unwrap_or (line_writes (goes t i device) addr bytes) [])
  line_in device addr bytes =
      let go = goes t i device in
      let pages = goes_by_page t i device aligned in
      elim (cases_Bool (is_line bytes)) [
        | inr none ↦ subst (All (IsEffectIn devices i.spans)) (sym (no_line go addr bytes none)) none_in
        | inl line ↦
            let size = line_length bytes line in
            elim (cases_lt (left_in_page addr) (length bytes)) [
              | inl long ↦ subst (All (IsEffectIn devices i.spans)) (sym (line_in_two go pages addr bytes long line)) (two_in device addr bytes long size.1)
              | inr short ↦
                  subst (All (IsEffectIn devices i.spans)) (sym (line_in_one go pages addr bytes line short))
                  (one_in devices i.spans (go addr) bytes (may_go device addr bytes size.0 size.1 short))
            ]
      ]

  -- what stands for an input of the devices are effects of a record of these devices and spans
  pub input_in : (x : Input) → HaveMemoriesIn i.spans devices → IsInputOf devices x → AreEffects (lowered_input t i x)
  input_in (Port port value) lie h = single_in _ h
  input_in (Mem at bytes) lie h = single_in _ (devices_have i.spans at (length bytes) devices.devices lie h.0, h.1, h.2)
  input_in (Irq subject vector) lie h = single_in _ h
  input_in Idle lie h = none_in
  input_in (Dma device addr bytes) lie h = line_in device addr bytes

-- ---- writes end below 2 ^ 64

-- a byte of a span that ends below the end of memory is below it
span_low : (s : SpanPart) (place : ℕ) → end_of s ≤ PHYSICAL_END → (nat_le s.address place && nat_lt place (s.address + PAGE * s.pages)) ≡ true → place < PHYSICAL_END
span_low s place low h =
    let last : place < s.address + PAGE * s.pages = ltb-true place (s.address + PAGE * s.pages) (and_parts (nat_le s.address place) (nat_lt place (s.address + PAGE * s.pages)) h).1 in
    omega (arith, low, last)

-- .. and so is one of spans that do
spans_low : (spans : List SpanPart) (place : ℕ) → All (λ s. end_of s ≤ PHYSICAL_END) spans → is_in_spans spans place ≡ true → place < PHYSICAL_END
spans_low spans place low h =
    let s = any_some (λ (s : SpanPart). nat_le s.address place && nat_lt place (s.address + PAGE * s.pages)) spans h in
    span_low s.one place (all_in (λ (s : SpanPart). end_of s ≤ PHYSICAL_END) spans low s.one s.within) s.passes

-- a few bytes that lie in the spans
few_low : (spans : List SpanPart) (at count : ℕ) → All (λ s. end_of s ≤ PHYSICAL_END) spans → AreInSpans spans at count → 1 ≤ count → count ≤ 64 → at + count < 2 ^ 64
few_low spans at count low lies some few =
    let first : at < 1099511627776 = spans_low spans at low (lies at (omega arith) (omega (arith, some))) in
    omega (arith, first, few)

-- an effect of a record of spans
low_effect : (devices : Devices) (spans : List SpanPart) (x : Effect) → All (λ s. end_of s ≤ PHYSICAL_END) spans → IsEffectIn devices spans x → IsLowEffect x
low_effect devices spans (ToPort port value) low h = tt
low_effect devices spans (ToMem at bytes) low h = few_low spans at (length bytes) low h.0 h.1 h.2
low_effect devices spans (ToIrq subject vector) low h = tt

-- no devices
abbrev none_of : Devices
none_of = record { cpus = 0; devices = []; few = omega arith }

-- what stands for an input that ends low
pub lowered_low : (t : Option DmaFile) (i : Image) (x : Input) → IsParts i → IsLowWrite x → All IsLowEffect (lowered_input t i x)
lowered_low t i (Port port value) parts h = All-cons IsLowEffect _ [] h (All-nil IsLowEffect)
lowered_low t i (Mem at bytes) parts h = All-cons IsLowEffect _ [] h (All-nil IsLowEffect)
lowered_low t i (Irq subject vector) parts h = All-cons IsLowEffect _ [] h (All-nil IsLowEffect)
lowered_low t i Idle parts h = All-nil IsLowEffect
lowered_low t i (Dma device addr bytes) parts h =
    let writes = line_in t i none_of (parts_aligned i parts) device addr bytes in
    λ k d l. low_effect none_of i.spans _ (parts_low i parts) (writes k d l)
