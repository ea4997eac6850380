-- What stands in the memory that an image gives a machine: the pages of its spans.
use Rattle.std.proofs.Common.{◌≡◌, ℕ, ◌+◌, ◌*◌, ◌/◌, ◌<◌, if◌then◌else◌, true, false, List, [], length, map, take, drop, replicate, Some, sym, ap, ◌∙◌, arith}
use Rattle.std.specs.Prelude.{◌==◌, option_map, slice_get}
use Rattle.std.specs.Option.{option_map_or}
use Rattle.std.proofs.lemmas.Bool.{eq-eqb, eqb-true}
use Rattle.std.proofs.lemmas.List.{length-replicate, length-take, length-drop}
use Rattle.std.proofs.lemmas.Option.{slice_get-map}
use Rattle.image_memory.specs.Memory.{Span, bytes_of, memory_of, memory_span, page_at, page_of_span, span_at, spans_in}
use Rattle.image_memory.proofs.MemoryPages.{in_spans}
use Rattle.image_memory.proofs.Rising.{parts_load}
use Rattle.image_memory.proofs.SpanNumbers.{KernelSpan, number_once}
use Rattle.image_pack.specs.Codes.{is_device}
use Rattle.image_pack.specs.ImageConditions.{IsContent, KeepsConditions}
use Rattle.image_pack.specs.declared.parts.Image.{Image}
use Rattle.image_pack.specs.declared.parts.SpanPart.{SpanPart}
use Rattle.image_pack.proofs.ConditionsFit.{conditions_fit}
use Rattle.machine_layout.specs.Memory.{page_of}
use Rattle.muen_num.specs.declared.limits.TheConstants.{PAGE}
use Rattle.muen_num.proofs.Indexed.{found_at, found_only}
use Rattle.muen_num.proofs.Pairs.{both_at, other_at, zipped_at, zipped_both}

-- ---- a span with what it has at the start

pub record SpanIn (i : Image) (e : Span) : Type 0 where
  pub index : ℕ
  pub span : slice_get i.spans index ≡ Some e.0
  pub content : slice_get i.contents index ≡ Some e.1
  pub long : length (bytes_of e) ≡ 4096 * e.0.pages

long_by : (s : SpanPart) (bytes : List ℕ) → IsContent s bytes → length (bytes_of (s, bytes)) ≡ 4096 * s.pages
long_by s bytes h =
    elim (is_device s.kind) as (λ b. length bytes ≡ (if b then 0 else 4096 * s.pages) → length (if b then replicate (4096 * s.pages) 0 else bytes) ≡ 4096 * s.pages) [
      | true ↦ λ long. length-replicate (4096 * s.pages) 0
      | false ↦ λ long. long
    ] h.0

pub span_with : (i : Image) → KeepsConditions i → (a : ℕ) (s : SpanPart) → slice_get i.spans a ≡ Some s → (bytes : List ℕ) × SpanIn i (s, bytes)
span_with i keeps a s at =
    let c = other_at IsContent i.spans i.contents a s keeps.contents at in
    (c.0, record { index = a; span = at; content = c.1; long = long_by s c.0 c.2 })

-- what a number stands for is such a span
pub span_by : (i : Image) → KeepsConditions i → (n : ℕ) (e : Span) → span_at i n ≡ Some e → SpanIn i e × (e.0.number ≡ n)
span_by i keeps n e h =
    let p = found_at (λ (u : Span). u.0.number == n) (spans_in i) e h in
    let both = zipped_both i.spans i.contents p.index e p.here in
    (record { index = p.index; span = both.0; content = both.1; long = long_by e.0 e.1 (both_at IsContent i.spans i.contents p.index e.0 e.1 keeps.contents both.0 both.1) }, eqb-true e.0.number n p.passes)

-- such a span is what its number stands for
pub by_its_number : (i : Image) → KeepsConditions i → (n : ℕ) (e : Span) → SpanIn i e → e.0.number ≡ n → span_at i n ≡ Some e
by_its_number i keeps n e h is =
    found_only (λ (u : Span). u.0.number == n) (spans_in i) h.index e (zipped_at i.spans i.contents h.index e.0 e.1 h.span h.content) (eq-eqb e.0.number n is)
    (λ m u here passes. number_once i.spans keeps.spans m h.index u.0 e.0 (zipped_both i.spans i.contents m u here).0 h.span (eqb-true u.0.number n passes ∙ sym is))

-- ---- pages of memory

stands_at : (i : Image) (e : Span) → (h : SpanIn i e) → slice_get (map memory_span (spans_in i)) h.index ≡ Some (memory_span e)
stands_at i e h =
    slice_get-map memory_span (spans_in i) h.index
    ∙ ap (option_map memory_span) (zipped_at i.spans i.contents h.index e.0 e.1 h.span h.content)

pages_long : (n m j : ℕ) → n ≡ 4096 * m → j < m → j < n / 4096
pages_long n m j e h = omega (arith, e, h)

-- page j of a span stands in memory
pub page_there : (i : Image) → KeepsConditions i → (e : Span) → SpanIn i e → (j : ℕ) → j < e.0.pages → page_of (memory_of i) (e.0.address / 4096 + j) ≡ Some (take PAGE (drop (PAGE * j) (bytes_of e)))
page_there i keeps e h j l =
    in_spans (map memory_span (spans_in i)) (parts_load i (conditions_fit i keeps)) h.index (memory_span e) (stands_at i e h) j (pages_long (length (bytes_of e)) e.0.pages j h.long l)

-- page k of the span of a number stands in memory
pub numbered_page : (i : Image) → KeepsConditions i → (code pages n k : ℕ) → KernelSpan i.spans code pages n → k < pages → page_of (memory_of i) (page_of_span i.spans n + k) ≡ Some (page_at i n k)
numbered_page i keeps code pages n k s l =
    let c = span_with i keeps s.index s.span s.here in
    let many = s.pages_there in
    let is : span_at i n ≡ Some (s.span, c.0) = by_its_number i keeps n (s.span, c.0) c.1 s.number in
    ap (λ j. page_of (memory_of i) (j + k)) s.first
    ∙ page_there i keeps (s.span, c.0) c.1 k (omega (arith, l, many))
    ∙ ap (λ o. Some (take PAGE (drop (PAGE * k) (option_map_or bytes_of o [])))) (sym is)

-- it has 4096 bytes
pub numbered_page_long : (i : Image) → KeepsConditions i → (code pages n k : ℕ) → KernelSpan i.spans code pages n → k < pages → length (page_at i n k) ≡ 4096
numbered_page_long i keeps code pages n k s l =
    let c = span_with i keeps s.index s.span s.here in
    let many = s.pages_there in
    let is : span_at i n ≡ Some (s.span, c.0) = by_its_number i keeps n (s.span, c.0) c.1 s.number in
    let bytes = bytes_of (s.span, c.0) in
    let long : length bytes ≡ 4096 * s.span.pages = c.1.long in
    let rest = length-drop (4096 * k) bytes in
    let front = length-take 4096 (drop (4096 * k) bytes) in
    ap (λ o. length (take PAGE (drop (PAGE * k) (option_map_or bytes_of o [])))) is ∙ omega (arith, front, rest, long, many, l)
