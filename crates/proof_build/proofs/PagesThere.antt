-- The pages of each span stand in the memory that the image gives.
use Rattle.std.proofs.Common.{◌≡◌, ℕ, ◌+◌, ◌*◌, ◌/◌, ◌<◌, ◌≤◌, List, length, map, get_or, take, drop, Bool, true, false, Some, ap, ◌∙◌, subst, arith}
use Rattle.std.specs.Prelude.{if◌then◌else◌, option_map, replicate, slice_get}
use Rattle.std.specs.List.{Contains}
use Rattle.std.proofs.lemmas.List.{get_or-map, length-map, length-replicate}
use Rattle.std.proofs.lemmas.List.Elements.{All-map}
use Rattle.std.proofs.lemmas.List.Sorted.{Contains-permutation}
use Rattle.std.proofs.lemmas.Option.{get_or_from_slice_get, slice_get-get_or, slice_get-map, slice_get_within}
use Rattle.image_emit.specs.Made.{IsMade, Made, content_at, image_of}
use Rattle.image_emit.proofs.ByNumber.{zip_self}
use Rattle.image_emit.proofs.ContentLengths.{each_content}
use Rattle.image_soundness.specs.Memory.{bytes_of, memory_of, memory_span}
use Rattle.image_soundness.proofs.MemoryPages.{in_spans}
use Rattle.image_pack.specs.Codes.{is_device}
use Rattle.image_pack.specs.ImageConditions.{FillsSpan}
use Rattle.image_pack.specs.SpanConditions.{IsSpan as IsImageSpan, end_of as end_of_span}
use Rattle.image_pack.specs.declared.parts.SpanPart.{SpanPart}
use Rattle.machine_layout.specs.Memory.{page_of}
use Rattle.muen_num.proofs.Lists.{map-map, there}
use Rattle.muen_num.specs.declared.limits.TheConstants.{PAGE}
use Rattle.image_soundness.specs.Spans.{AreSpans, IsMemorySpan, pages_of_spans}
use Rattle.image_soundness.specs.spans.MemorySpan.{MemorySpan}
use Rattle.span_emit.specs.SpansOf.{spans_of}

-- a span has as many bytes at the start as its pages
bytes_if : (device : Bool) (pages : ℕ) (bytes : List ℕ) → length bytes ≡ (if device then 0 else PAGE * pages) → length (if device then replicate (PAGE * pages) 0 else bytes) ≡ PAGE * pages
bytes_if true pages bytes h = length-replicate (PAGE * pages) 0
bytes_if false pages bytes h = h

pub bytes_long : (s : SpanPart) (bytes : List ℕ) → FillsSpan s bytes → length (bytes_of (s, bytes)) ≡ PAGE * s.pages
bytes_long s bytes h = bytes_if (is_device s.kind) s.pages bytes h

module _ (m : Made) (h : IsMade m) where
  abbrev with_bytes : SpanPart → MemorySpan
  with_bytes s = memory_span (s, content_at m s)

  long_at : (k : ℕ) (d : SpanPart) → k < length m.spans → length (with_bytes (get_or m.spans k d)).bytes ≡ PAGE * (get_or m.spans k d).pages
  long_at k d l = bytes_long (get_or m.spans k d) (content_at m (get_or m.spans k d)) (each_content m h k d l)

  are_spans : AreSpans (map with_bytes m.spans)
  are_spans = record {
    each = All-map IsMemorySpan with_bytes m.spans (λ k d l.
        let s = get_or m.spans k d in
        let is : IsImageSpan s = h.spans.each k d l in
        let long = long_at k d l in
        record { aligned = is.aligned; whole = omega (arith, long); low = omega (arith, long, is.low) });
    apart = λ i j d a b.
        let many = length-map m.spans with_bytes in
        let within : j < length m.spans = omega (arith, many, b) in
        let lower : i < length m.spans = omega (arith, a, within) in
        let e = (there m.spans i lower).0 in
        let ascend : end_of_span (get_or m.spans i e) ≤ (get_or m.spans j e).address = h.spans.ascend i j e a within in
        let long = long_at i e lower in
        rw (get_or-map with_bytes m.spans i e d lower, get_or-map with_bytes m.spans j e d within) (omega (arith, ascend, long));
  }

  memory_is : memory_of (image_of m) ≡ pages_of_spans (map with_bytes m.spans)
  unfolding image_of
  memory_is =
      ap (λ es. pages_of_spans (map memory_span es)) (zip_self (content_at m) m.spans)
      ∙ ap pages_of_spans (map-map memory_span (λ s. (s, content_at m s)) m.spans)

  pub page_there : (n : ℕ) (s : SpanPart) → slice_get (spans_of m.placed) n ≡ Some s → (k : ℕ) → k < s.pages
      → page_of (memory_of (image_of m)) (s.address / PAGE + k) ≡ Some (take PAGE (drop (PAGE * k) (bytes_of (s, content_at m s))))
  page_there n s at k l =
      let all : Contains (spans_of m.placed) s = (n, slice_get_within (spans_of m.placed) n s at, get_or_from_slice_get (spans_of m.placed) n s s at) in
      let among : Contains m.spans s = Contains-permutation (spans_of m.placed) m.spans s h.numbered all in
      let here : slice_get m.spans among.0 ≡ Some s = slice_get-get_or m.spans among.0 s among.1 ∙ ap Some among.2 in
      let mapped : slice_get (map with_bytes m.spans) among.0 ≡ Some (with_bytes s) = slice_get-map with_bytes m.spans among.0 ∙ ap (λ o. option_map with_bytes o) here in
      let long : length (with_bytes s).bytes ≡ PAGE * s.pages = subst (λ s. length (with_bytes s).bytes ≡ PAGE * s.pages) among.2 (long_at among.0 s among.1) in
      ap (λ p. page_of p (s.address / PAGE + k)) memory_is
      ∙ in_spans (map with_bytes m.spans) are_spans among.0 (with_bytes s) mapped k (omega (arith, long, l))
