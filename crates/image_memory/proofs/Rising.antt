-- The spans of an image ascend without overlap, and so do they with what they have at the start.
use Rattle.std.proofs.Common.{◌≡◌, ℕ, zero, suc, ◌+◌, ◌*◌, ◌%◌, ◌<◌, ◌≤◌, true, false, if◌then◌else◌, List, [], ◌∷◌, length, map, replicate, get_or, sym, subst, ap, arith}
use Rattle.std.specs.List.{AllByRecursion, zip}
use Rattle.std.proofs.lemmas.Bool.{and_parts, eqb-true, leb-true}
use Rattle.std.proofs.lemmas.List.{length-replicate}
use Rattle.std.proofs.lemmas.List.Elements.{All-from_recursion}
use Rattle.muen_num.specs.declared.limits.TheConstants.{MOST_DEVICES, PAGE, PHYSICAL_END}
use Rattle.phys_mem.specs.Spans.{AreApart, AreSpans, IsMemorySpan, memory_span_end}
use Rattle.phys_mem.specs.declared.spans.MemorySpan.{MemorySpan}
use Rattle.image_pack.specs.Form.{all_fit, byte, fixed_bytes, coded, done, each, each_fit, field, gap, items, number, only}
use Rattle.image_pack.specs.Codes.{is_device}
use Rattle.image_pack.specs.Image.{after, content, counts, header, image, no_spans_before, span}
use Rattle.image_pack.specs.Parts.{IsParts}
use Rattle.image_pack.specs.declared.outline.Header.{Header}
use Rattle.image_pack.specs.declared.parts.Image.{Image}
use Rattle.image_pack.specs.declared.parts.SpanPart.{SpanPart}
use Rattle.image_pack.specs.declared.reading.spans.SpansBefore.{SpansBefore}
use Rattle.image_memory.specs.Memory.{AreLow, IsLow, memory_span, spans_in}

-- ---- the spans of parts

-- whole pages behind an end, of addresses that there are
record IsBehind (end : ℕ) (s : SpanPart) : Type 0 where
  aligned : s.address % PAGE ≡ 0
  behind : end ≤ s.address
  low : s.address + PAGE * s.pages ≤ PHYSICAL_END

abbrev Rise : ℕ → List SpanPart → Type 0
Rise end [] = Unit {0}
Rise end (s ∷ ss) = IsBehind end s × Rise (s.address + PAGE * s.pages) ss

one_behind : (h : Header) (b : SpansBefore) (s : SpanPart) → (span h b).fits s → IsBehind b.end s
unfolding span field only gap done number byte coded
one_behind h b s fits =
    let address = and_parts _ _ fits.0.1 in
    let size = and_parts _ _ fits.1.0.1 in
    record { aligned = eqb-true _ _ address.0; behind = leb-true _ _ address.1; low = leb-true _ _ size.1 }

rising : (h : Header) (b : SpansBefore) (ss : List SpanPart) → all_fit (after h) (λ d. (span h d).fits) b ss → Rise b.end ss
unfolding all_fit after
rising h b [] fits = tt
rising h b (s ∷ ss) fits = (one_behind h b s fits.0, rising h (after h b s) ss fits.1)

parts_rise : (i : Image) → IsParts i → Rise 0 i.spans
unfolding image field items
parts_rise i fits = rising i.header (no_spans_before i.header) i.spans fits.1.0.1

low_each : (end : ℕ) (ss : List SpanPart) → Rise end ss → AllByRecursion IsLow ss
low_each end [] h = tt
low_each end (s ∷ ss) h = (record { low = h.0.low }, low_each (s.address + PAGE * s.pages) ss h.1)

pub parts_low : (i : Image) → IsParts i → AreLow i.spans
parts_low i fits = All-from_recursion _ _ (low_each 0 i.spans (parts_rise i fits))

-- ---- how many devices there are

pub parts_few : (i : Image) → IsParts i → length i.devices ≤ MOST_DEVICES
unfolding image header counts field only gap items
parts_few i fits =
    let few : i.header.devices ≤ MOST_DEVICES = leb-true _ _ fits.0.1.1.1.1.1.0.1 in
    let many : length i.devices ≡ i.header.devices = fits.1.1.1.1.1.0.0 in
    omega (arith, few, many)

-- ---- the spans with what they have at the start

contents_length : (s : SpanPart) (bytes : List ℕ) → (content s).fits bytes → length (memory_span (s, bytes)).bytes ≡ PAGE * s.pages
unfolding content fixed_bytes
contents_length s bytes fits =
    elim (is_device s.kind) as (λ b. length bytes ≡ (if b then 0 else PAGE * s.pages) → length (if b then replicate (PAGE * s.pages) 0 else bytes) ≡ PAGE * s.pages) [
      | true ↦ λ long. length-replicate (PAGE * s.pages) 0
      | false ↦ λ long. long
    ] fits.0

abbrev Follow : ℕ → List MemorySpan → Type 0
Follow end [] = Unit {0}
Follow end (s ∷ ss) = (end ≤ s.address) × IsMemorySpan s × Follow (memory_span_end s) ss

follow_loaded : (end : ℕ) (ss : List SpanPart) (bs : List (List ℕ)) → Rise end ss → each_fit (λ s. (content s).fits) ss bs → Follow end (map memory_span (zip ss bs))
unfolding each_fit
follow_loaded end [] bs h fits = tt
follow_loaded end (s ∷ ss) [] h fits = tt
follow_loaded end (s ∷ ss) (b ∷ bs) h fits =
    let long = contents_length s b fits.0 in
    let here = h.0 in
    let at_end : memory_span_end (memory_span (s, b)) ≡ s.address + PAGE * s.pages = ap (λ n. s.address + n) long in (
      here.behind,
      record { aligned = here.aligned; whole = omega (arith, long); low = omega (arith, at_end, here.low) },
      subst (λ n. Follow n (map memory_span (zip ss bs))) (sym at_end) (follow_loaded (s.address + PAGE * s.pages) ss bs h.1 fits.1),
    )

spans_each : (end : ℕ) (ss : List MemorySpan) → Follow end ss → AllByRecursion IsMemorySpan ss
spans_each end [] h = tt
spans_each end (s ∷ ss) h = (h.1, spans_each (memory_span_end s) ss h.2)

all_behind : (end : ℕ) (ss : List MemorySpan) → Follow end ss → (j : ℕ) (d : MemorySpan) → j < length ss → end ≤ (get_or ss j d).address
all_behind end [] h j d low = absurd (omega arith)
all_behind end (s ∷ ss) h zero d low = h.0
all_behind end (s ∷ ss) h (suc j) d low =
    let more = all_behind (memory_span_end s) ss h.2 j d (omega (arith, low)) in
    let first : end ≤ s.address = h.0 in
    omega (arith, more, first)

spans_apart : (end : ℕ) (ss : List MemorySpan) → Follow end ss → AreApart ss
spans_apart end [] h i j d lt low = absurd (omega arith)
spans_apart end (s ∷ ss) h zero zero d lt low = absurd (omega arith)
spans_apart end (s ∷ ss) h zero (suc j) d lt low = all_behind (memory_span_end s) ss h.2 j d (omega (arith, low))
spans_apart end (s ∷ ss) h (suc i) zero d lt low = absurd (omega arith)
spans_apart end (s ∷ ss) h (suc i) (suc j) d lt low = spans_apart (memory_span_end s) ss h.2 i j d (omega (arith, lt)) (omega (arith, low))

pub parts_load : (i : Image) → IsParts i → AreSpans (map memory_span (spans_in i))
unfolding image field each
parts_load i fits =
    let follow = follow_loaded 0 i.spans i.contents (parts_rise i fits) fits.1.1.1.1.1.1.0 in
    record { each = All-from_recursion _ _ (spans_each 0 _ follow); apart = spans_apart 0 _ follow }
