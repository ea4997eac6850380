-- Spans of memory, and the pages that they have.
use Rattle.std.specs.Prelude.{◌≡◌, ℕ, ◌+◌, ◌/◌, ◌%◌, ◌^◌, ◌<◌, ◌≤◌, List, [], ◌∷◌, ◌++◌, length, slice_index_or}
use Rattle.std.specs.List.{All}
use Rattle.machine_layout.specs.Memory.{Page}
use Rattle.phys_mem.specs.Frames.{pages_in}
use Rattle.phys_mem.specs.declared.spans.MemorySpan.{MemorySpan}

abbrev pub memory_span_end : MemorySpan → ℕ
memory_span_end s = s.address + length s.bytes

-- whole pages, below 2 ^ 40
pub record IsMemorySpan (s : MemorySpan) : Type 0 where
  pub aligned : s.address % 4096 ≡ 0
  pub whole : length s.bytes % 4096 ≡ 0
  pub low : memory_span_end s ≤ 2 ^ 40

-- each ends where the next one begins, or before it
abbrev pub AreApart : List MemorySpan → Type 0
AreApart ss =
    (i j : ℕ) (d : MemorySpan) → i < j → j < length ss → memory_span_end (slice_index_or ss i d) ≤ (slice_index_or ss j d).address

pub record AreSpans (ss : List MemorySpan) : Type 0 where
  pub each : All IsMemorySpan ss
  pub apart : AreApart ss

-- the pages of spans: of each its bytes, cut into pages that are numbered from that of its address on
abbrev pub pages_of_spans : List MemorySpan → List Page
pages_of_spans [] = []
pages_of_spans (s ∷ ss) = pages_in (length s.bytes / 4096) (s.address / 4096) s.bytes ++ pages_of_spans ss
