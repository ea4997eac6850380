-- The memory that an image gives a machine (this project's own format and machine).
use Rattle.std.specs.Prelude.{◌≡◌, ℕ, ◌+◌, ◌*◌, ◌/◌, ◌<◌, ◌≤◌, ◌==◌, List, [], map, zip, take, drop, length, replicate, slice_get, Option, Some, if◌then◌else◌}
use Rattle.std.specs.Option.{option_map_or}
use Rattle.std.specs.List.{All, filter_map, find}
use Rattle.image_pack.specs.Codes.{is_device}
use Rattle.image_pack.specs.declared.parts.Image.{Image}
use Rattle.image_pack.specs.declared.parts.SpanPart.{SpanPart}
use Rattle.machine_layout.specs.Memory.{Page, page_of}
use Rattle.muen_num.specs.Range.{numbers_below}
use Rattle.muen_num.specs.declared.limits.TheConstants.{PAGE, PHYSICAL_END}
use Rattle.phys_mem.specs.Spans.{AreSpans, pages_of_spans}
use Rattle.phys_mem.specs.declared.spans.MemorySpan.{MemorySpan}

-- a span, with what it has in the image
abbrev pub Span : Type 0
Span = SpanPart × List ℕ

-- what stands in it at the start: its bytes, or zeros of a device's memory
abbrev pub bytes_of : Span → List ℕ
bytes_of (s, bytes) = if is_device s.kind then replicate (PAGE * s.pages) 0 else bytes

abbrev pub spans_in : Image → List Span
spans_in i = zip i.spans i.contents

abbrev pub memory_span : Span → MemorySpan
memory_span e = record { address = e.0.address; bytes = bytes_of e }

-- the pages of a machine's memory at the start: those of the spans, and no others
abbrev pub memory_of : Image → List Page
memory_of i = pages_of_spans (map memory_span (spans_in i))

-- each page of each span stands in the memory that spans give
abbrev pub SpansAreInMemory : Type 0
SpansAreInMemory =
    (ss : List MemorySpan) → AreSpans ss → (i : ℕ) (s : MemorySpan) → slice_get ss i ≡ Some s → (j : ℕ) → j < length s.bytes / PAGE
    → page_of (pages_of_spans ss) (s.address / PAGE + j) ≡ Some (take PAGE (drop (PAGE * j) s.bytes))

-- ---- spans by number

abbrev pub span_at : Image → ℕ → Option Span
span_at i number = find (λ e. e.0.number == number) (spans_in i)

-- the spans in the order of their numbers
unfoldable pub by_number : Image → List Span
by_number i = filter_map (span_at i) (numbers_below (length i.spans))

abbrev pub address_at : Image → ℕ → ℕ
address_at i number = option_map_or (λ e. e.0.address) (span_at i number) 0

abbrev pub bytes_at : Image → ℕ → List ℕ
bytes_at i number = option_map_or bytes_of (span_at i number) []

-- page k of the span of this number
abbrev pub page_at : Image → ℕ → ℕ → List ℕ
page_at i number k = take PAGE (drop (PAGE * k) (bytes_at i number))

-- the first page of the span with this number
abbrev pub page_of_span : List SpanPart → ℕ → ℕ
page_of_span spans n = option_map_or (λ s. s.address / PAGE) (find (λ s. s.number == n) spans) 0

-- ---- where spans end

-- the span ends where physical addresses do, or before it
pub record IsLow (s : SpanPart) : Type 0 where
  pub low : s.address + PAGE * s.pages ≤ PHYSICAL_END

abbrev pub AreLow : List SpanPart → Type 0
AreLow spans = All IsLow spans
