-- What the text of a line tells.
use Rattle.std.specs.Prelude.{◌≡◌, ℕ, ◌+◌, ◌<◌, ◌≤◌, true, List, length, Option, Some, is_none, is_some, Result, Err, slice_get}
use Rattle.std.specs.List.{All, flat_map}
use Rattle.image_pack.specs.Parts.{IsParts}
use Rattle.image_pack.specs.SpanConditions.{end_of}
use Rattle.image_pack.specs.declared.parts.Image.{Image}
use Rattle.image_pack.specs.declared.parts.SpanPart.{SpanPart}
use Rattle.device_bench.specs.declared.effect.Effect.{Effect}
use Rattle.device_bench.specs.declared.effect.Effect.TheVariants.{Mem as ToMem}
use Rattle.dma_tables.specs.Lowered.{goes, is_line, line_writes}
use Rattle.dma_tables.specs.declared.file.DmaFile.{DmaFile}
use Rattle.dma_lines.specs.LinesText.{Lost, dropped, line_outcome, span_with, write_text}
use Rattle.dma_lines.specs.Losses.{comes}
use Rattle.dma_lines.specs.declared.loss.Loss.{Loss}

-- of the bytes of a line it is the first that goes nowhere, and that is why
pub record IsFirstLost (go : ℕ → Option ℕ) (way : ℕ → Result ℕ Loss) (addr : ℕ) (bytes : List ℕ) (lost : Lost) : Type 0 where
  pub place : ℕ
  pub within : place < length bytes
  pub at : lost.at ≡ addr + place
  pub why : way lost.at ≡ Err lost.why
  pub before : (k : ℕ) → k < place → is_some (go (addr + k)) ≡ true

-- one span has the byte of this address, and that one is told
pub record HasSpan (spans : List SpanPart) (at : ℕ) : Type 0 where
  pub span : SpanPart
  pub told : span_with spans at ≡ Some span
  pub begins : span.address ≤ at
  pub ends : at < end_of span
  pub alone : (k : ℕ) (s : SpanPart) → slice_get spans k ≡ Some s → s.address ≤ at → at < end_of s → s ≡ span

-- bytes are written, the first of them into one span
abbrev pub IsTold : List SpanPart → Effect → Type 0
IsTold spans (ToMem at bytes) = HasSpan spans at
IsTold spans effect = ⊥

-- ---- of a line of a device, by tables and an image

-- it is told as dropped exactly where nothing of it is written
abbrev pub DropsUnwritten : Option DmaFile → Image → ℕ → ℕ → List ℕ → Type 0
DropsUnwritten t i device addr bytes = is_some (dropped (comes t i device) addr bytes) ≡ is_none (line_writes (goes t i device) addr bytes)

-- the address that is told is the first of its bytes that goes nowhere
abbrev pub TellsFirstLost : Option DmaFile → Image → ℕ → ℕ → List ℕ → Type 0
TellsFirstLost t i device addr bytes =
    (lost : Lost) → is_line bytes ≡ true → dropped (comes t i device) addr bytes ≡ Some lost → IsFirstLost (goes t i device) (comes t i device) addr bytes lost

-- otherwise its writes are told, in their order
abbrev pub TellsWrites : Option DmaFile → Image → ℕ → ℕ → List ℕ → Type 0
TellsWrites t i device addr bytes =
    (writes : List Effect) → line_writes (goes t i device) addr bytes ≡ Some writes → line_outcome t i device addr bytes ≡ flat_map (write_text i.spans) writes

-- each by the one span that has its first byte
abbrev pub TellsSpans : Option DmaFile → Image → ℕ → ℕ → List ℕ → Type 0
TellsSpans t i device addr bytes =
    (writes : List Effect) → IsParts i → line_writes (goes t i device) addr bytes ≡ Some writes → All (IsTold i.spans) writes
