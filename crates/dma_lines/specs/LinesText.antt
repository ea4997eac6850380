-- What `lines` prints (this project's own).
use Rattle.std.specs.Prelude.{ℕ, ◌+◌, ◌*◌, ◌&&◌, nat_le, nat_lt, if◌then◌else◌, List, [], ◌++◌, codes, decimal, length, Option, Some, None, option_map, unwrap_or, Result}
use Rattle.std.specs.List.{enumerate_from, find, flat_map, slice_get}
use Rattle.std.specs.Option.{option_map_or}
use Rattle.std.specs.Result.{result_err}
use Rattle.muen_num.specs.Fixed.{hex16}
use Rattle.muen_num.specs.Search.{first_in}
use Rattle.muen_num.specs.Tag.{tag_text}
use Rattle.muen_num.specs.declared.limits.TheConstants.{PAGE}
use Rattle.muen_num.specs.declared.tag.Tag.{Tag}
use Rattle.image_pack.specs.declared.parts.Image.{Image}
use Rattle.image_pack.specs.declared.parts.SpanPart.{SpanPart}
use Rattle.device_bench.specs.declared.effect.Effect.{Effect}
use Rattle.device_bench.specs.declared.effect.Effect.TheVariants.{Mem as ToMem}
use Rattle.record_text.specs.declared.record.Input.{Input}
use Rattle.record_text.specs.declared.record.Input.TheVariants.{Dma}
use Rattle.record_text.specs.declared.record.Record.{Record}
use Rattle.dma_tables.specs.Lowered.{goes, is_line, line_writes}
use Rattle.dma_tables.specs.declared.file.DmaFile.{DmaFile}
use Rattle.dma_lines.specs.Losses.{comes}
use Rattle.dma_lines.specs.declared.loss.Loss.{Loss}
use Rattle.dma_lines.specs.declared.loss.Loss.TheVariants.{NoLine, NoTables, NoDevice, TooHigh, NoTable, BadEntry, NotPresent, NoRight, Outside}

-- ---- where a line is dropped

-- an address for which nothing is written, and why
pub record Lost : Type 0 where
  pub at : ℕ
  pub why : Loss

abbrev pub lost_at : (ℕ → Result ℕ Loss) → ℕ → Option Lost
lost_at way at = option_map (λ why. record { at = at; why = why }) (result_err (way at))

-- by the way of each address: none, or the first address of a line, of 1 to 64 bytes, for which nothing is written
unfoldable pub dropped : (ℕ → Result ℕ Loss) → ℕ → List ℕ → Option Lost
dropped way addr bytes =
    if is_line bytes then first_in (λ e. lost_at way e.0) (enumerate_from addr bytes) else Some (record { at = addr; why = NoLine })

-- ---- what is named

-- the span that has the byte of this address
abbrev pub span_with : List SpanPart → ℕ → Option SpanPart
span_with spans place = find (λ s. nat_le s.address place && nat_lt place (s.address + PAGE * s.pages)) spans

abbrev pub loss_word : Loss → List ℕ
loss_word NoLine = codes "no line"
loss_word NoTables = codes "no tables"
loss_word NoDevice = codes "no device"
loss_word TooHigh = codes "too high"
loss_word NoTable = codes "no table"
loss_word BadEntry = codes "bad entry"
loss_word NotPresent = codes "not present"
loss_word NoRight = codes "no right"
loss_word Outside = codes "outside"

-- ---- a line

-- its tick, its device's name, or `?` where the image has none, its address and how many bytes it has
unfoldable pub head_text : ℕ → Option (List ℕ) → ℕ → ℕ → List ℕ
head_text tick device addr count =
    decimal tick ++ codes " " ++ unwrap_or device (codes "?") ++ codes " " ++ hex16 addr ++ codes " " ++ decimal count

-- what is written in one page: the address, how many bytes, and the name of what lies there
unfoldable pub piece_text : ℕ → ℕ → Tag → List ℕ
piece_text at count region = codes " " ++ hex16 at ++ codes " " ++ decimal count ++ codes " " ++ tag_text region

unfoldable pub lost_text : ℕ → Loss → List ℕ
lost_text at why = codes " dropped at " ++ hex16 at ++ codes ": " ++ loss_word why

-- a write into these spans, by the name of the one that has its first byte
abbrev pub bytes_text : List SpanPart → ℕ → ℕ → List ℕ
bytes_text spans at count = option_map_or (λ s. piece_text at count s.tag) (span_with spans at) []

abbrev pub write_text : List SpanPart → Effect → List ℕ
write_text spans (ToMem at bytes) = bytes_text spans at (length bytes)
write_text spans effect = []

-- where it is dropped, or else its writes
abbrev pub outcome_text : List SpanPart → Option Lost → List Effect → List ℕ
outcome_text spans (Some lost) writes = lost_text lost.at lost.why
outcome_text spans None writes = flat_map (write_text spans) writes

unfoldable pub line_outcome : Option DmaFile → Image → ℕ → ℕ → List ℕ → List ℕ
line_outcome tables i device addr bytes =
    outcome_text i.spans (dropped (comes tables i device) addr bytes) (unwrap_or (line_writes (goes tables i device) addr bytes) [])

abbrev pub line_text : Option DmaFile → Image → ℕ → ℕ → ℕ → List ℕ → List ℕ
line_text tables i tick device addr bytes =
    head_text tick (option_map (λ d. d.name) (slice_get i.devices device)) addr (length bytes) ++ line_outcome tables i device addr bytes ++ codes "\n"

-- ---- the text: each line of direct memory access, in the record's order

abbrev pub input_text : Option DmaFile → Image → ℕ → Input → List ℕ
input_text tables i tick (Dma device addr bytes) = line_text tables i tick device addr bytes
input_text tables i tick input = []

unfoldable pub lines_text : Option DmaFile → Image → Record Input → List ℕ
lines_text tables i r = flat_map (λ e. input_text tables i e.tick e.input) r.inputs
